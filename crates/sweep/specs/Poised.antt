-- What holds between two sweeps.
-- Functions below the calls promise it to each other; no public promise cites it.
use Rattle.std.specs.Prelude.{◌≡◌, ◌⊎◌, List, ℕ, ◌+◌, ◌*◌, ◌≤◌, ◌<◌, length}
use Rattle.games.specs.Game.{asked, at}
use Rattle.games.specs.Lift.{Capped}
use Rattle.words.specs.Word.{dig, In}
use Rattle.automaton.specs.declared.Mode.{Mode}
use Rattle.automaton.specs.Board.{Board}
use Rattle.simulation.specs.Position.{layers, pairs, positions}
use Rattle.simulation.specs.Rules.{game}
use Rattle.arena.specs.declared.game.Game.{Game}
use Rattle.arena.specs.Game.{board, Playable}
use Rattle.halves.specs.Drawn.{Accepting, Into, Onto}
use Rattle.halves.specs.Rising.{Blank}
use Rattle.halves.specs.Half.{AllCalm}

-- each word is as it was, or empty
abbrev pub Emptied : (words words' : List ℕ) → Type 0
Emptied words words' = (i : ℕ) → (at words' i ≡ at words i) ⊎ (at words' i ≡ 0)

-- every row with a member is in the set of its b
abbrev pub Covered : Board → Mode → (risen rows : List ℕ) → Type 0
Covered B m risen rows = (b q r : ℕ) → b < layers m → q < B.n → r < B.n → (dig (at risen (b * B.n + q)) r ≡ 0) ⊎ In q (at rows b)

-- The next sweep may begin: Duplicator's positions are at rest, what may raise Spoiler's is marked, and nothing is noted.
pub record Poised (B : Board) (m : Mode) (t risen grown columns : List ℕ) : Type 0 where
  pub capped : Capped (game B m) t
  pub rested : (v : ℕ) → pairs B m ≤ v → v < positions B m → asked (game B m) (at t) v ≤ at t v
  pub calm : AllCalm B m t grown columns
  pub blank : Blank B m risen

-- What a sweep works with: the arena, the words that are drawn, and room for what is noted and marked with b 0 or 1.
pub record Equipped (g : Game) (table : List ℕ) (acc : ℕ) (into onto risen rows olds grown columns : List ℕ) : Type 0 where
  pub ready : Playable g table
  pub accepting : Accepting (board g) acc
  pub before : Into (board g) into
  pub after : Onto (board g) onto
  pub for_risen : 2 * g.arena.states ≤ length risen
  pub for_rows : 2 ≤ length rows
  pub for_olds : 2 * g.arena.states ≤ length olds
  pub for_grown : 2 * g.arena.states * g.arena.letters ≤ length grown
  pub for_columns : 2 ≤ length columns
