-- The arena of a job, in which the calls on a table work, and that it fits the lent bytes.
use Rattle.std.specs.Prelude.{◌≡◌, List, ℕ, ◌+◌, ◌*◌, length, Result, Ok, Err}
use Rattle.games.specs.Game.{Game}
use Rattle.automaton.specs.declared.Mode.{Mode}
use Rattle.automaton.specs.declared.Refusal.{Refusal}
use Rattle.automaton.specs.Answer.{Fault, none, fault}
use Rattle.automaton.specs.Board.{Board, Formed}
use Rattle.simulation.specs.Position.{pairs, positions}
use Rattle.simulation.specs.Rules.{ceiling, game}
use Rattle.arena.specs.declared.Arena.{Arena}
use Rattle.arena.specs.Job.{Job, mode_of}
use Rattle.arena.specs.Refusals.{job_fault, length_fault, open_fault}

-- the numbers of a board's game in a mode
abbrev pub arena_of : Board → Mode → Arena
arena_of B m = record { states = B.n; letters = B.k; mode = m; pairs = pairs B m; top = ceiling B m }

-- the board that an arena and the lent bytes make up, and its game
abbrev pub board_in : Arena → (marks moves : List ℕ) → Board
board_in g marks moves = record { n = g.states; k = g.letters; marks = marks; moves = moves }

abbrev pub game_in : Arena → (marks moves : List ℕ) → Game
game_in g marks moves = game (board_in g marks moves) g.mode

-- What the code below a call asks for, and no public promise cites: the arena of a checked automaton, and a table of P entries.
pub record Ready (g : Arena) (marks moves table : List ℕ) : Type 0 where
  pub formed : Formed (board_in g marks moves)
  pub paired : g.pairs ≡ pairs (board_in g marks moves) g.mode
  pub topped : g.top ≡ ceiling (board_in g marks moves) g.mode
  pub entries : length table ≡ positions (board_in g marks moves) g.mode

-- the arena unless something is at fault: refusals 1 to 8, and 1 to 9 with a table of so many entries
abbrev pub opened_by : Fault → Arena → Result Arena Refusal
opened_by none g = Ok g
opened_by (fault r) g = Err r

unfoldable pub entered : Job → Result Arena Refusal
entered j = opened_by (job_fault j) (arena_of j.board (mode_of j.mode))

-- an arena again, with a table of so many entries: refusal 9
abbrev pub fitted : Arena → (entries : ℕ) → Result Arena Refusal
fitted g entries = opened_by (length_fault (g.pairs * (1 + g.letters)) entries) g

unfoldable pub opened : Job → (entries : ℕ) → Result Arena Refusal
opened j entries = opened_by (open_fault j entries) (arena_of j.board (mode_of j.mode))
