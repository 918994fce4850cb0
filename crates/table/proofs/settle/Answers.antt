-- `table::settle` meets its contract: where the game was opened, the number of raises and the table are those of the settle in it.
use Rattle.std.proofs.Common.{sym, ap, ◌∙◌, List, ℕ}
use Rattle.std.proofs.lemmas.Result.{err_from_is_err_and}
use Rattle.games.specs.Game.{Game}
use Rattle.games.specs.Settle.{settle}
use Rattle.automaton.specs.Answer.{valued}
use Rattle.automaton.specs.Effect.{Effect}
use Rattle.automaton.proofs.Effects.{both}
use Rattle.arena.specs.Job.{game_of}
use Rattle.arena.proofs.Games.{opens_played, opens_playable}
use Rattle.arena.proofs.Opening.{shut_effect, open_effect}
use Rattle.table.specs.Calls.{settling}
use Rattle.table.proofs.settle.Goals as goal

abbrev settled : Game → Effect (List ℕ)
settled g = record { answer = valued (settle g).raised; left = (settle g).table }

pub settle_in-requires : goal.settle_in-requires
settle_in-requires c = opens_playable c.args.job.now c.args.table.now c.in_ok-game.game c.in_ok-game.ensures

pub returns-in_err-game : goal.returns-in_err-game
unfolding settling
returns-in_err-game c =
    let j = c.args.job.now in
    let t = c.args.table.now in
    let p = err_from_is_err_and c.from_residual.result c.from_residual.ensures.1 in
    let e = both (sym (shut_effect j t t (settled (game_of j)) _ c.in_err-game.ensures)) in
    record { result_value = rw (p.1, p.2) e.0; table_after = e.1 }

pub returns : goal.returns
unfolding settling
returns c =
    let j = c.args.job.now in
    let t = c.args.table.now in
    let g = c.in_ok-game.game in
    let played = opens_played j t g c.in_ok-game.ensures in
    let e = both (ap settled (sym played) ∙ sym (open_effect j t t (settled (game_of j)) g.arena c.in_ok-game.ensures.0)) in
    record { result_value = ap valued c.settle_in.ensures.value ∙ e.0; table_after = c.settle_in.ensures.table_after ∙ e.1 }
