-- What a push may leave out: those that have had an entry no less.
use Rattle.std.proofs.Common.{◌⊎◌, inl, inr, ℕ, ◌≤◌}
use Rattle.words.specs.Word.{In, Minus}
use Rattle.words.proofs.Sets.{minus-sub, minus-cases}
use Rattle.spoilers.specs.Front.{Fresh}

pub fresh-less : (before done v cur r : ℕ) → v ≤ cur → Minus before done r → Fresh before done v cur r
fresh-less before done v cur r h m = record { sub = minus-sub m; all = λ q i. all q (minus-cases m q i) }
  where
    all : (q : ℕ) → In q done ⊎ In q r → In q r ⊎ ((v ≤ cur) × In q done)
    all q (inl d) = inr (h, d)
    all q (inr k) = inl k
