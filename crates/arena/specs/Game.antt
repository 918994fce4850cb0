-- A call's game: the board that it is played on, the game that the theory has of it, and the tables that fit it.
use Rattle.std.specs.Prelude.{◌≡◌, List, ℕ, Result, Ok, Err}
use Rattle.games.specs.Game as theory
use Rattle.automaton.specs.Board.{Board}
use Rattle.arena.specs.declared.game.Game.{Game}
use Rattle.automaton.specs.declared.Refusal.{Refusal}
use Rattle.arena.specs.Job.{Job}
use Rattle.arena.specs.Arena.{board_in, game_in, Ready, opened}

abbrev pub board : Game → Board
board g = board_in g.arena g.marks.now g.moves.now

abbrev pub played : Game → theory.Game
played g = game_in g.arena g.marks.now g.moves.now

-- What the code below a call asks for, and no public promise cites: the arena of a checked automaton, and a table of P entries.
abbrev pub Playable : Game → (table : List ℕ) → Type 0
Playable g table = Ready g.arena g.marks.now g.moves.now table

-- The game of a job, for a table of so many entries: its arena with the bytes of the job, or the refusal that stands in the way.
abbrev pub Opens : Job → (entries : ℕ) → Result Game Refusal → Type 0
Opens j entries (Ok g) = (opened j entries ≡ Ok g.arena) × (g.marks.now ≡ j.board.marks) × (g.moves.now ≡ j.board.moves)
Opens j entries (Err r) = opened j entries ≡ Err r
