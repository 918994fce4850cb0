-- Duplicator's half as it goes, and what a part of it does.
-- Functions below the calls promise it to each other; no public promise cites it.
use Rattle.std.specs.Prelude.{◌≡◌, ◌⊎◌, List, ℕ, ◌≤◌, ◌<◌, length}
use Rattle.games.specs.Game.{asked, at}
use Rattle.games.specs.Half.{rose}
use Rattle.automaton.specs.declared.Mode.{Mode}
use Rattle.automaton.specs.Board.{Board}
use Rattle.simulation.specs.Position.{pairs}
use Rattle.simulation.specs.Rules.{game}
use Rattle.arena.specs.declared.game.Game.{Game}
use Rattle.arena.specs.Game.{board}
use Rattle.halves.specs.Rising.{Marked, AllMarked}

-- the table, and the marks of what has risen
pub record Growing : Type 0 where
  pub table : List ℕ
  pub grown : List ℕ
  pub columns : List ℕ

-- What a part of Duplicator's half does: Spoiler's entries stay, each of Duplicator's stays or rises to what it asks for and is marked, what was marked
-- remains so, and c entries rise.
pub record Answered (B : Board) (m : Mode) (s u : Growing) (c : ℕ) : Type 0 where
  pub entries : length u.table ≡ length s.table
  pub words : length u.grown ≡ length s.grown
  pub sets : length u.columns ≡ length s.columns
  pub others : (v : ℕ) → v < pairs B m → at u.table v ≡ at s.table v
  pub due : (v : ℕ) → pairs B m ≤ v
      → (at u.table v ≡ at s.table v) ⊎ ((at u.table v ≡ asked (game B m) (at s.table) v) × (at s.table v < at u.table v))
  pub marked : AllMarked B m s.table u.table u.grown u.columns
  pub kept : (b q r a : ℕ) → Marked B s.grown s.columns b q r a → Marked B u.grown u.columns b q r a
  pub count : rose s.table u.table (length s.table) ≡ c

-- Duplicator's (b,q,r,a) is marked too, and what was marked remains so
pub record MarkedToo (B : Board) (grown columns grown' columns' : List ℕ) (b q r a : ℕ) : Type 0 where
  pub words : length grown' ≡ length grown
  pub sets : length columns' ≡ length columns
  pub here : Marked B grown' columns' b q r a
  pub kept : (c x y z : ℕ) → Marked B grown columns c x y z → Marked B grown' columns' c x y z

abbrev pub growing : (table grown columns : List ℕ) → Growing
growing table grown columns = record { table = table; grown = grown; columns = columns }

-- the same of an arena and the lent bytes
abbrev pub AnsweredIn : Game → (s u : Growing) → (c : ℕ) → Type 0
AnsweredIn g s u c = Answered (board g) g.arena.mode s u c
