-- Measures without a ceiling: what it is for a set of positions, each with ranks, to be at rest.
use mathlib.Core.List.{List, Memᴰ}
use Rattle.std.specs.Prelude.{ℕ, ◌≤◌, ◌<◌}
use Rattle.games.specs.Game.{Kind, low, high, counting, resetting, idle, lost, Game}

-- What the steps ws of a position with rank m must offer, R relating positions of the set to their ranks.
abbrev pub Upheld : Kind → (R : ℕ → ℕ → Type 0) → (ws : List ℕ) → (m : ℕ) → Type 0
Upheld low R ws m = (w : ℕ) × Memᴰ w ws × ((p : ℕ) × (p ≤ m) × R w p)
Upheld high R ws m = (w : ℕ) → Memᴰ w ws → (p : ℕ) × (p ≤ m) × R w p
Upheld counting R ws m = (0 < m) × ((w : ℕ) → Memᴰ w ws → (p : ℕ) × (p < m) × R w p)
Upheld resetting R ws m = (w : ℕ) → Memᴰ w ws → (p : ℕ) × R w p
Upheld idle R ws m = Unit {0}
Upheld lost R ws m = ⊥

-- a set closed under play whose ranks lie below some bound
pub record Ranked (g : Game) (bound : ℕ) (R : ℕ → ℕ → Type 0) : Type 0 where
  pub bounded : (v m : ℕ) → R v m → m < bound
  pub upheld : (v m : ℕ) → v < g.P → R v m → Upheld (g.kind v) R (g.next v) m

-- The function f at rest, with no ceiling at all, on the positions of S: each is upheld with rank f v, every number from f w on being a rank of w.
abbrev pub RestOn : Game → (S : ℕ → Type 0) → (f : ℕ → ℕ) → Type 0
RestOn g S f = (v : ℕ) → v < g.P → S v → Upheld (g.kind v) (λ w p. S w × (f w ≤ p)) (g.next v) (f v)
