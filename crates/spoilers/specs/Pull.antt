-- High over Red's moves, read off the table, and positions that heed all of their moves.
-- Functions below the calls promise it to each other; no public promise cites it.
use Rattle.std.specs.Prelude.{◌≡◌, ◌⊎◌, List, ℕ, ◌≤◌, ◌<◌}
use Rattle.games.specs.Game.{at}
use Rattle.automaton.specs.declared.Mode.{Mode}
use Rattle.automaton.specs.Board.{Board}
use Rattle.simulation.specs.Moves.{Moves}
use Rattle.halves.specs.Half.{challenged}
use Rattle.spoilers.specs.Work.{Heeded}

-- h is the greatest of `high` and of the entries that Red's moves from q by a lead to from (b,·,r)
pub record HighBy (B : Board) (m : Mode) (t : List ℕ) (b q r a high h : ℕ) : Type 0 where
  pub least : high ≤ h
  pub each : (x : ℕ) → Moves B q a x → at t (challenged B m b r x a) ≤ h
  pub some : (h ≡ high) ⊎ ((x : ℕ) × Moves B q a x × (at t (challenged B m b r x a) ≡ h))

-- h is High of (b,q,r) by the letters below k: the greatest of the entries that Red's moves by them lead to, and 0 if there are none
pub record HighTo (B : Board) (m : Mode) (t : List ℕ) (b q r k h : ℕ) : Type 0 where
  pub each : (a x : ℕ) → a < k → Moves B q a x → at t (challenged B m b r x a) ≤ h
  pub some : (h ≡ 0) ⊎ ((a : ℕ) × (x : ℕ) × Moves B q a x × (at t (challenged B m b r x a) ≡ h))

-- (b,q,r) heeds every move of Red's
abbrev pub Heeds : Board → Mode → (b r : ℕ) → (t : List ℕ) → (q : ℕ) → Type 0
Heeds B m b r t q = (a x : ℕ) → Moves B q a x → Heeded B m t b q r a x

-- so it is in the whole column (b,·,r)
abbrev pub ColumnHeeds : Board → Mode → (b : ℕ) → (t : List ℕ) → (r : ℕ) → Type 0
ColumnHeeds B m b t r = (q : ℕ) → q < B.n → Heeds B m b r t q

-- and in every column of b
abbrev pub AllHeed : Board → Mode → (t : List ℕ) → (b : ℕ) → Type 0
AllHeed B m t b = (r : ℕ) → r < B.n → ColumnHeeds B m b t r
