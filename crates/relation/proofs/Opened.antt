-- What the game that a call was opened with is: that of its job, and no refusal from 1 to 9 applies.
use Rattle.std.proofs.Common.{◌≡◌, sym, ap, ◌∙◌, List, ℕ, length, Ok}
use Rattle.games.specs.Game as theory
use Rattle.automaton.specs.Answer.{none}
use Rattle.arena.specs.declared.Arena.{Arena}
use Rattle.arena.specs.declared.game.Game.{Game}
use Rattle.arena.specs.Arena.{board_in}
use Rattle.arena.specs.Game.{board, Opens}
use Rattle.arena.specs.Job.{Job, mode_of, game_of}
use Rattle.arena.specs.Refusals.{open_fault}
use Rattle.arena.proofs.Games.{opens_played, opens_playable}
use Rattle.arena.proofs.Open.{open_is, open_faultless}

module _ (j : Job) (t : List ℕ) (g : Game) (o : Opens j (length t) (Ok g)) where
  pub faultless : open_fault j (length t) ≡ none
  faultless = open_faultless j t g.arena o.0

  pub board_is : board g ≡ j.board
  board_is = λ i. board_in (sym (open_is j t g.arena o.0).1 i) (o.1 i) (o.2 i)

  pub mode_is : g.arena.mode ≡ mode_of j.mode
  mode_is = ap (λ (h : Arena). h.mode) (sym (open_is j t g.arena o.0).1)

  -- the table has an entry for each position
  pub entries : length t ≡ (game_of j).P
  entries = (opens_playable j t g o).entries ∙ sym (ap (λ (h : theory.Game). h.P) (opens_played j t g o))
