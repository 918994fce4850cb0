-- One entry more of a list that is filled from the front.
use Rattle.std.proofs.Common.{sym, subst, List, ℕ, ◌+◌, ◌<◌, arith, length, set, get_or-set_same, get_or-set_other, below_more}
use Rattle.games.specs.Game.{at}

-- what holds below i and at i holds below i + 1
pub below_one : (P : ℕ → Type 0) (i : ℕ) → ((j : ℕ) → j < i → P j) → P i → (j : ℕ) → j < i + 1 → P j
below_one = below_more

-- what holds of the entries below i, and of v at i, holds of those below i + 1 once v is stored at i
pub stored : (P : ℕ → ℕ → Type 0) (l : List ℕ) (i v : ℕ) → i < length l → ((j : ℕ) → j < i → P j (at l j)) → P i v
    → (j : ℕ) → j < i + 1 → P j (at (set l i v) j)
stored P l i v h all here =
    below_more (λ j. P j (at (set l i v) j)) i
    (λ j b. subst (P j) (sym (get_or-set_other l i j v 0 (λ e. omega arith))) (all j b))
    (subst (P i) (sym (get_or-set_same l i v 0 h)) here)
