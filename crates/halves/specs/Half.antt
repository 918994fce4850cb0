-- What each half of a sweep may skip.
-- Functions below the calls promise it to each other; no public promise cites it.
use Rattle.std.specs.Prelude.{◌⊎◌, List, ℕ, ◌+◌, ◌*◌, ◌≤◌, ◌<◌}
use Rattle.games.specs.Game.{asked, at}
use Rattle.games.specs.Half.{rule}
use Rattle.words.specs.Word.{In}
use Rattle.automaton.specs.declared.Mode.{Mode}
use Rattle.automaton.specs.Board.{Board, accepts}
use Rattle.simulation.specs.Moves.{Moves}
use Rattle.simulation.specs.Position.{spoiler, duplicator, layers, pair, number}
use Rattle.simulation.specs.Rules.{pended, eased, turn, ceiling, game}
use Rattle.halves.specs.Rising.{Rising, Marked}

-- what Spoiler's (b,q,r) asks for if High is h
abbrev pub ruled : Board → Mode → (b q r h : ℕ) → ℕ
ruled B m b q r h = rule (turn m b (accepts B q) (accepts B r)) (ceiling B m) h

-- the number of Duplicator's position that a move to x by a leads to from Spoiler's (b,·,r)
abbrev pub challenged : Board → Mode → (b r x a : ℕ) → ℕ
challenged B m b r x a = number B m (duplicator (pended m (accepts B x) b) x r a)

-- the number of Spoiler's position that a move to x leads to from Duplicator's (b,q,·,·)
abbrev pub replied : Board → Mode → (b q x : ℕ) → ℕ
replied B m b q x = number B m (spoiler (eased m (accepts B x) b) q x)

-- Spoiler's (b,q,r) may be raised by marked entries alone: its entry is no less than what it asks for with High 0, or by any one step to an entry that is not marked
pub record Calm (B : Board) (m : Mode) (t grown columns : List ℕ) (b q r : ℕ) : Type 0 where
  pub floor : ruled B m b q r 0 ≤ at t (pair B b q r)
  pub step : (a x : ℕ) → Moves B q a x
      → Marked B grown columns (pended m (accepts B x) b) x r a ⊎ (ruled B m b q r (at t (challenged B m b r x a)) ≤ at t (pair B b q r))

abbrev pub AllCalm : Board → Mode → (t grown columns : List ℕ) → Type 0
AllCalm B m t grown columns = (b q r : ℕ) → b < layers m → q < B.n → r < B.n → Calm B m t grown columns b q r

-- what Duplicator's (b,q,r,a) asks for
abbrev pub low_at : Board → Mode → (t : List ℕ) → (b q r a : ℕ) → ℕ
low_at B m t b q r a = asked (game B m) (at t) (number B m (duplicator b q r a))

-- Duplicator's (b,q,r,a) is at rest, or a step from it leads to an entry that has risen and is noted, and it asks for more than the old entries of that row
abbrev pub Stirred : Board → Mode → Rising → (b q r a : ℕ) → Type 0
Stirred B m s b q r a =
    (low_at B m s.table b q r a ≤ at s.table (number B m (duplicator b q r a)))
    ⊎ ((x : ℕ) × Moves B r a x × In x (at s.risen (eased m (accepts B x) b * B.n + q)) × In q (at s.rows (eased m (accepts B x) b))
    × (at s.olds (eased m (accepts B x) b * B.n + q) < low_at B m s.table b q r a))

abbrev pub AllStirred : Board → Mode → Rising → Type 0
AllStirred B m s = (b q r a : ℕ) → b < layers m → q < B.n → r < B.n → a < B.k → Stirred B m s b q r a
