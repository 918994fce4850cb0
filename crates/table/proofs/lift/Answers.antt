-- `table::lift` meets its contract: where the game was opened, the answer and the table are those of the lift in it.
use Rattle.std.proofs.Common.{sym, ap, ◌∙◌}
use Rattle.std.proofs.lemmas.Result.{err_from_is_err_and}
use Rattle.games.specs.Game.{Game}
use Rattle.automaton.proofs.Effects.{both}
use Rattle.arena.specs.Job.{game_of}
use Rattle.arena.proofs.Games.{opens_played, opens_playable}
use Rattle.arena.proofs.Opening.{shut_effect, open_effect}
use Rattle.table.specs.Calls.{lifted, lifting}
use Rattle.table.proofs.lift.Goals as goal

pub lift_in-requires : goal.lift_in-requires
lift_in-requires c = opens_playable c.args.job.now c.args.table.now c.in_ok-game.game c.in_ok-game.ensures

pub returns-in_err-game : goal.returns-in_err-game
unfolding lifting
returns-in_err-game c =
    let j = c.args.job.now in
    let t = c.args.table.now in
    let p = err_from_is_err_and c.from_residual.result c.from_residual.ensures.1 in
    let e = both (sym (shut_effect j t t (lifted (game_of j) t c.args.position) _ c.in_err-game.ensures)) in
    record { result_value = rw (p.1, p.2) e.0; table_after = e.1 }

pub returns : goal.returns
unfolding lifting
returns c =
    let j = c.args.job.now in
    let t = c.args.table.now in
    let g = c.in_ok-game.game in
    let v = c.args.position in
    let played = opens_played j t g c.in_ok-game.ensures in
    let e = both (ap (λ (h : Game). lifted h t v) (sym played) ∙ sym (open_effect j t t (lifted (game_of j) t v) g.arena c.in_ok-game.ensures.0)) in
    record { result_value = c.lift_in.ensures.result_value ∙ e.0; table_after = c.lift_in.ensures.table_after ∙ e.1 }
