-- What has been pushed into a column so far, and what is left out because it would raise nothing.
-- Functions below the calls promise it to each other; no public promise cites it.
use Rattle.std.specs.Prelude.{◌⊎◌, Bool, List, ℕ, ◌≤◌, ◌<◌}
use Rattle.games.specs.Game.{at}
use Rattle.words.specs.Word.{In}
use Rattle.automaton.specs.declared.Mode.{Mode}
use Rattle.automaton.specs.Board.{Board, accepts}
use Rattle.simulation.specs.Moves.{Moves}
use Rattle.simulation.specs.Rules.{pended, ceiling}
use Rattle.halves.specs.Rising.{column, Marked}
use Rattle.spoilers.specs.declared.column.Column.{Column}
use Rattle.spoilers.specs.declared.front.Front.{Front}
use Rattle.spoilers.specs.Work.{gives, Holds, Heeded}

-- r holds those of `before` that v may raise: the others have had cur, which is no less
pub record Fresh (before done v cur r : ℕ) : Type 0 where
  pub sub : (q : ℕ) → In q r → In q before
  pub all : (q : ℕ) → In q before → In q r ⊎ ((v ≤ cur) × In q done)

-- each of r has had the greater of v and cur
pub record Cover (before done v cur r : ℕ) : Type 0 where
  pub each : (q : ℕ) → In q r → ((v ≤ cur) × In q done) ⊎ ((cur ≤ v) × In q before)

-- each state that has had the greatest entry has what that entry gives it
abbrev pub Guarded : Board → Mode → (t : List ℕ) → Column → Front → Type 0
Guarded B m t c f = Holds B t c.bit c.blue f.had (gives c.rule.bump (ceiling B m) f.greatest)

-- every move by a to x is heeded by (b,·,r)
abbrev pub Heard : Board → Mode → (b r a : ℕ) → (t : List ℕ) → (x : ℕ) → Type 0
Heard B m b r a t x = (q : ℕ) → Moves B q a x → Heeded B m t b q r a x

-- x is marked for (b,·,r) and a
abbrev pub Source : Board → Mode → (grown : List ℕ) → (b r a x : ℕ) → Type 0
Source B m grown b r a x = In x (at grown (column B (pended m (accepts B x) b) r a))

-- s holds the states that are marked for (b,·,r) and a, and none that is not of the automaton
pub record Sources (B : Board) (m : Mode) (grown : List ℕ) (b r a s : ℕ) : Type 0 where
  pub states : (x : ℕ) → In x s → x < B.n
  pub all : (x : ℕ) → x < B.n → Source B m grown b r a x → In x s

-- all that is marked for (b,·,r) and a is heeded
abbrev pub Lettered : Board → Mode → (grown : List ℕ) → (b r : ℕ) → (t : List ℕ) → (a : ℕ) → Type 0
Lettered B m grown b r t a = (x : ℕ) → x < B.n → Source B m grown b r a x → Heard B m b r a t x

-- all that is marked for (b,·,r) is heeded
abbrev pub Columned : Board → Mode → (grown : List ℕ) → (b : ℕ) → (t : List ℕ) → (r : ℕ) → Type 0
Columned B m grown b t r = (a : ℕ) → a < B.k → Lettered B m grown b r t a

-- s holds the r of the columns with marks that may raise (b,·,r), and none that is not of the automaton
pub record Columns (B : Board) (m : Mode) (columns : List ℕ) (b s : ℕ) : Type 0 where
  pub states : (r : ℕ) → In r s → r < B.n
  pub all : (r : ℕ) → r < B.n → (x : Bool) → In r (at columns (pended m x b)) → In r s

-- all that is marked for b is heeded
abbrev pub Layered : Board → Mode → (grown columns : List ℕ) → (t : List ℕ) → (b : ℕ) → Type 0
Layered B m grown columns t b = (r a x q : ℕ) → r < B.n → Marked B grown columns (pended m (accepts B x) b) x r a → Moves B q a x → Heeded B m t b q r a x
