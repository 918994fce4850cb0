-- What a call is given beside the table: an automaton and a mode, and so a game.
use Rattle.std.specs.Prelude.{List, ℕ, Option, Some, None}
use Rattle.games.specs.Game.{Game}
use Rattle.automaton.specs.declared.Automaton.{Automaton}
use Rattle.automaton.specs.declared.Mode.{Mode}
use Rattle.automaton.specs.declared.Mode.TheVariants.{Ordinary}
use Rattle.automaton.specs.Board.{Board, board_of}
use Rattle.automaton.specs.Limits.{name_of}
use Rattle.simulation.specs.Rules.{game}

-- an automaton, by its board and its start, and the number of a mode
pub record Job : Type 0 where
  pub board : Board
  pub start : ℕ
  pub mode : ℕ

-- the job of an automaton's record, with the marks and the moves lent beside it
abbrev pub job_of : Automaton → (marks moves : List ℕ) → (mode : ℕ) → Job
job_of a marks moves mode = record { board = board_of a marks moves; start = a.start; mode = mode }

-- A number that no mode has is refused before its mode is asked for: any mode stands for it.
abbrev pub mode_in : Option Mode → Mode
mode_in (Some m) = m
mode_in None = Ordinary

abbrev pub mode_of : (number : ℕ) → Mode
mode_of number = mode_in (name_of number)

-- the game that a job is about
abbrev pub game_of : Job → Game
game_of j = game j.board (mode_of j.mode)
