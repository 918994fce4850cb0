-- `table::rest` meets its contract: where the game was opened, the answer is that of the test in it.
use Rattle.std.proofs.Common.{sym, ap, ◌∙◌}
use Rattle.std.proofs.lemmas.Result.{err_from_is_err_and}
use Rattle.games.specs.Game.{Game}
use Rattle.automaton.specs.Answer.{Fault, unless}
use Rattle.arena.specs.Job.{game_of}
use Rattle.arena.proofs.Games.{opens_played, opens_playable}
use Rattle.arena.proofs.Open.{shut_fault, open_faultless}
use Rattle.table.specs.Calls.{rested, resting}
use Rattle.table.proofs.rest.Goals as goal

pub rest_in-requires : goal.rest_in-requires
rest_in-requires c = opens_playable c.args.job.now c.args.table.now c.in_ok-game.game c.in_ok-game.ensures

pub returns-in_err-game : goal.returns-in_err-game
unfolding resting
returns-in_err-game c =
    let j = c.args.job.now in
    let t = c.args.table.now in
    let p = err_from_is_err_and c.from_residual.result c.from_residual.ensures.1 in
    rw (p.1, p.2) (sym (ap (λ (f : Fault). unless f (rested (game_of j) t)) (shut_fault j t _ c.in_err-game.ensures)))

pub returns : goal.returns
unfolding resting
returns c =
    let j = c.args.job.now in
    let t = c.args.table.now in
    let g = c.in_ok-game.game in
    c.rest_in.ensures
    ∙ ap (λ (h : Game). rested h t) (sym (opens_played j t g c.in_ok-game.ensures))
    ∙ sym (ap (λ (f : Fault). unless f (rested (game_of j) t)) (open_faultless j t g.arena c.in_ok-game.ensures.0))
