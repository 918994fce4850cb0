-- What reading pairs off a table needs of an arena, its marks and the table. It takes no moves: its board is the one without any.
-- `Seating` promises by it; no promise of a call cites it.
use Rattle.std.specs.Prelude.{◌≡◌, List, [], ℕ, ◌*◌, ◌≤◌, length}
use Rattle.automaton.specs.Board.{Board}
use Rattle.automaton.specs.Limits.{most_states}
use Rattle.simulation.specs.Position.{layers}
use Rattle.simulation.specs.Rules.{ceiling}
use Rattle.arena.specs.declared.Arena.{Arena}
use Rattle.arena.specs.Arena.{board_in}

-- the board of an arena and its marks, without moves
abbrev pub bare : Arena → (marks : List ℕ) → Board
bare g marks = board_in g marks []

-- within the limits, a mark for each state, T, and an entry for each of Spoiler's positions
pub record Seated (g : Arena) (marks table : List ℕ) : Type 0 where
  pub few : g.states ≤ most_states
  pub marked : length marks ≡ g.states
  pub topped : g.top ≡ ceiling (bare g marks) g.mode
  pub seats : layers g.mode * (g.states * g.states) ≤ length table
