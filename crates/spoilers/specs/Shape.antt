-- A column of Spoiler's positions, (b,q,r) for every q: how they ask, and where the entries stand that may raise them.
-- Functions below the calls promise it to each other; no public promise cites it.
use Rattle.std.specs.Prelude.{◌≡◌, true, List, ℕ, ◌+◌, ◌*◌, ◌≤◌, ◌<◌, max, length}
use Rattle.words.specs.Word.{dig, In}
use Rattle.automaton.specs.declared.Mode.{Mode}
use Rattle.automaton.specs.Board.{Board, Formed}
use Rattle.simulation.specs.Position.{layers, pairs}
use Rattle.simulation.specs.Rules.{pended, ceiling}
use Rattle.arena.specs.declared.game.Game.{Game}
use Rattle.arena.specs.Game.{board}
use Rattle.halves.specs.Drawn.{Accepting, Into}
use Rattle.halves.specs.Half.{ruled}
use Rattle.spoilers.specs.declared.column.Column.{Column}
use Rattle.spoilers.specs.Work.{gives}

-- the arena is that of a checked automaton, and the word holds its accepting states
pub record Known (g : Game) (acc : ℕ) : Type 0 where
  pub formed : Formed (board g)
  pub paired : g.arena.pairs ≡ pairs (board g) g.arena.mode
  pub topped : g.arena.top ≡ ceiling (board g) g.arena.mode
  pub accepting : Accepting (board g) acc

-- an entry h below `from` raises no (b,q,r); from there on, (b,q,r) asks for what h gives q, and for no more than that or what it asks for with High 0
pub record Asking (B : Board) (m : Mode) (b r from bump : ℕ) : Type 0 where
  pub idle : (q h : ℕ) → q < B.n → h ≤ ceiling B m → h < from → ruled B m b q r h ≤ ruled B m b q r 0
  pub due : (q h : ℕ) → q < B.n → h ≤ ceiling B m → from ≤ h → gives bump (ceiling B m) h q ≤ ruled B m b q r h
  pub enough : (q h : ℕ) → q < B.n → h ≤ ceiling B m → from ≤ h → ruled B m b q r h ≤ max (gives bump (ceiling B m) h q) (ruled B m b q r 0)

-- c is a column: its bits and its state, the states that accept and the others, where the entries begin that a move to one of them leads to, and how it asks
pub record Shaped (g : Game) (c : Column) : Type 0 where
  pub known : Known g c.accepting
  pub bit : c.bit < layers g.arena.mode
  pub owing : c.owing ≡ pended g.arena.mode true c.bit
  pub blue : c.blue < g.arena.states
  pub states : (x : ℕ) → In x c.others → x < g.arena.states
  pub others : (x : ℕ) → x < g.arena.states → dig c.accepting x ≡ 0 → In x c.others
  pub plain : c.plain ≡ g.arena.pairs + (c.bit * (g.arena.states * g.arena.states) + c.blue) * g.arena.letters
  pub marked : c.marked ≡ g.arena.pairs + (c.owing * (g.arena.states * g.arena.states) + c.blue) * g.arena.letters
  pub asking : Asking (board g) g.arena.mode c.bit c.blue c.rule.from c.rule.bump

-- the column (b,·,r)
abbrev pub ColumnOf : Game → (b r : ℕ) → Column → Type 0
ColumnOf g b r c = Shaped g c × (c.bit ≡ b) × (c.blue ≡ r)

-- what a push reads: the moves, and the marks, of which there is a word for each of Duplicator's columns
pub record Reading (g : Game) (into grown : List ℕ) : Type 0 where
  pub drawn : Into (board g) into
  pub words : layers g.arena.mode * g.arena.states * g.arena.letters ≤ length grown
