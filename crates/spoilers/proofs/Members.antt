-- What the test for a member says of it, and the members of a set of the least numbers.
use Rattle.std.proofs.Common.{◌≡◌, sym, ◌∙◌, ◌⊎◌, inl, inr, Bool, true, false, ℕ, ◌<◌, arith, eqb, eqb-true}
use native.Mathlib.Decide.{dec_lt}
use borrow.Author.Tests.{eqb-false}
use Rattle.words.specs.Word.{dig, In, Below}
use Rattle.words.proofs.Sets.{in_or-out}

pub has_in : (s x : ℕ) {t : Bool} → t ≡ eqb (dig s x) 1 → t ≡ true → In x s
has_in s x {t} e h = eqb-true (dig s x) 1 (sym e ∙ h)

pub has-not : (s x : ℕ) {t : Bool} → t ≡ eqb (dig s x) 1 → t ≡ false → dig s x ≡ 0
has-not s x {t} e h = go (in_or-out s x)
  where
    go : In x s ⊎ (dig s x ≡ 0) → dig s x ≡ 0
    go (inl i) = absurd (eqb-false (dig s x) 1 (sym e ∙ h) i)
    go (inr o) = o

pub below_in : {n r : ℕ} → Below n r → (x : ℕ) → In x r → x < n
below_in {n} {r} b x i = go (dec_lt x n)
  where
    go : Dec (x < n) → x < n
    go (yes l) = l
    go (no l) = absurd (omega (arith, b.none x (omega arith)))
