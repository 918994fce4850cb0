-- The entries of a row, gathered one by one, and the set of those at most `old`.
use Rattle.std.proofs.Common.{◌≡◌, ◌⊎◌, inl, inr, List, ℕ, ◌+◌, ◌≤◌, ◌<◌, arith, length, set, get_or-set_same, get_or-set_other}
use Rattle.games.specs.Game.{at}
use Rattle.words.specs.Word.{In}
use Rattle.words.proofs.Sets.{empty, with_cases, with_old}
use Rattle.levels.specs.Lows.{WithLow}
use Rattle.levels.proofs.Stored.{stored}
use Rattle.duplicators.specs.Rows.{AtMost}

pub at-most-start : (row : List ℕ) (old : ℕ) → AtMost 0 row old 0
at-most-start row old = record { within = λ x i. absurd (empty x i); all = λ x l h. absurd (omega arith) }

pub at-most-more : {x old low more entry : ℕ} (row : List ℕ) → x < length row → AtMost x row old low → WithLow low x entry old more
    → AtMost (x + 1) (set row x entry) old more
at-most-more {x} {old} {low} {more} {entry} row h s w = record { within = λ z i. within z i w; all = λ z l. stored (λ z v. v ≤ old → In z more) row x entry h (λ z b k. kept z w (s.all z b k)) (λ k. here k w) z l }
  where
    old-one : (z : ℕ) → z < x → at (set row x entry) z ≡ at row z
    old-one z l = get_or-set_other row x z entry 0 (λ e. omega arith)

    before : (z : ℕ) → In z low → (z < x + 1) × (at (set row x entry) z ≤ old)
    before z i = let o = s.within z i in (omega (arith, o.0), rw (old-one z o.0) o.1)

    put : (z : ℕ) → entry ≤ old → In z low ⊎ (z ≡ x) → (z < x + 1) × (at (set row x entry) z ≤ old)
    put z l (inl i) = before z i
    put z l (inr q) = (omega arith, rw (q, get_or-set_same row x entry 0 h) l)

    within : (z : ℕ) → In z more → WithLow low x entry old more → (z < x + 1) × (at (set row x entry) z ≤ old)
    within z i (inl (l, n)) = put z l (with_cases n z i)
    within z i (inr (l, q)) = before z (rw q at i)

    kept : (z : ℕ) → WithLow low x entry old more → In z low → In z more
    kept z (inl (l, n)) i = with_old n z i
    kept z (inr (l, q)) i = rw q i

    here : entry ≤ old → WithLow low x entry old more → In x more
    here l (inl (k, n)) = n.here
    here l (inr (k, q)) = absurd (omega arith)
