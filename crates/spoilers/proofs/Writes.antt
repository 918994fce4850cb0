-- One member put into a word, and one old entry lowered.
use Rattle.std.proofs.Common.{◌≡◌, List, ℕ, ◌≤◌, ◌<◌, arith, length, set, get_or-set_same, get_or-set_other}
use native.Mathlib.Decide.{ℕ_discrete}
use Rattle.games.specs.Game.{at}
use Rattle.words.specs.Word.{dig, In}
use Rattle.words.proofs.Sets.{with_old}
use Rattle.halves.specs.Drawn.{Inserted}
use Rattle.spoilers.specs.Note.{Lowered}

pub lowered : (l : List ℕ) (i e w : ℕ) → i < length l → w ≤ e → w ≤ at l i → Lowered l (set l i w) i e
lowered l i e w h below least = record { here = omega (arith, get_or-set_same l i w 0 h); less = λ j. go j (ℕ_discrete j i) }
  where
    go : (j : ℕ) → Dec (j ≡ i) → at (set l i w) j ≤ at l j
    go j (yes q) = rw q (omega (arith, get_or-set_same l i w 0 h))
    go j (no n) = omega (arith, get_or-set_other l i j w 0 n)

module _ {l u : List ℕ} {i x : ℕ} where
  -- members stay
  pub inserted_old : Inserted l i x u → (j y : ℕ) → In y (at l j) → In y (at u j)
  inserted_old a j y h = go (ℕ_discrete j i)
    where
      go : Dec (j ≡ i) → In y (at u j)
      go (yes e) = rw e (with_old a.here y (rw e at h))
      go (no n) = rw (a.other j n) h

  -- and no other comes in
  pub inserted_away : Inserted l i x u → (j y : ℕ) → (j ≡ i → y ≡ x → ⊥) → dig (at u j) y ≡ dig (at l j) y
  inserted_away a j y away = go (ℕ_discrete j i)
    where
      go : Dec (j ≡ i) → dig (at u j) y ≡ dig (at l j) y
      go (yes e) = rw e (a.here.other y (λ d. away e d))
      go (no n) = rw (a.other j n)
