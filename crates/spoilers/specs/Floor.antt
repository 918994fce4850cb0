-- What Spoiler's positions ask for with High 0, by columns.
-- Functions below the calls promise it to each other; no public promise cites it.
use Rattle.std.specs.Prelude.{◌≡◌, List, ℕ, ◌≤◌, ◌<◌}
use Rattle.games.specs.Game.{at}
use Rattle.words.specs.Word.{dig, In}
use Rattle.automaton.specs.declared.Mode.{Mode}
use Rattle.automaton.specs.Board.{Board}
use Rattle.simulation.specs.Position.{pair}
use Rattle.halves.specs.Half.{ruled}

-- with High 0, (b,q,r) asks for the value if q is in the set, and for 0 if it is another state
pub record FloorOf (B : Board) (m : Mode) (b r hit value : ℕ) : Type 0 where
  pub states : (q : ℕ) → In q hit → q < B.n
  pub hits : (q : ℕ) → In q hit → ruled B m b q r 0 ≡ value
  pub others : (q : ℕ) → q < B.n → dig hit q ≡ 0 → ruled B m b q r 0 ≡ 0

-- each (b,q,r) has what it asks for with High 0
abbrev pub Floored : Board → Mode → (b : ℕ) → (t : List ℕ) → (r : ℕ) → Type 0
Floored B m b t r = (q : ℕ) → q < B.n → ruled B m b q r 0 ≤ at t (pair B b q r)

-- so it is in every column of b
abbrev pub AllFloored : Board → Mode → (t : List ℕ) → (b : ℕ) → Type 0
AllFloored B m t b = (r : ℕ) → r < B.n → Floored B m b t r
