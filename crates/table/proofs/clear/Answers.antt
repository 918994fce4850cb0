-- `table::clear` meets its contract: where the game was opened, all of the table is filled with 0.
use Rattle.std.proofs.Common.{◌≡◌, sym, ap, ◌∙◌, List, ℕ, length, replicate, arith}
use Rattle.std.proofs.lemmas.Result.{err_from_is_err_and}
use Rattle.games.specs.Game.{Game}
use Rattle.games.specs.Lift.{cleared}
use Rattle.automaton.specs.Answer.{accepted}
use Rattle.automaton.specs.Effect.{Effect}
use Rattle.automaton.proofs.Effects.{both}
use Rattle.simulation.proofs.Position.{positions_are}
use Rattle.arena.specs.Game.{board, Playable}
use Rattle.arena.specs.Job.{Job, game_of}
use Rattle.arena.proofs.Games.{opens_played, opens_playable}
use Rattle.arena.proofs.Opening.{shut_effect, open_effect}
use Rattle.table.specs.Calls.{clearing}
use Rattle.table.proofs.clear.Goals as goal

abbrev emptied : Job → Effect (List ℕ)
emptied j = record { answer = accepted; left = cleared (game_of j) }

pub clear-requires : goal.clear-requires
clear-requires c =
    let g = c.in_ok-game.game in
    let ready : Playable g c.args.table.now = opens_playable c.args.job.now c.args.table.now g c.in_ok-game.ensures in
    omega (arith, ready.paired, ready.entries, positions_are (board g) g.arena.mode)

pub returns-in_err-game : goal.returns-in_err-game
unfolding clearing
returns-in_err-game c =
    let j = c.args.job.now in
    let t = c.args.table.now in
    let p = err_from_is_err_and c.from_residual.result c.from_residual.ensures.1 in
    let e = both (sym (shut_effect j t t (emptied j) _ c.in_err-game.ensures)) in
    record { result_value = rw (p.1, p.2) e.0; table_after = e.1 }

pub returns : goal.returns
unfolding clearing
returns c =
    let j = c.args.job.now in
    let t = c.args.table.now in
    let g = c.in_ok-game.game in
    let ready : Playable g t = opens_playable j t g c.in_ok-game.ensures in
    let P : length t ≡ (game_of j).P = ready.entries ∙ sym (ap (λ (h : Game). h.P) (opens_played j t g c.in_ok-game.ensures)) in
    let e = both (sym (open_effect j t t (emptied j) g.arena c.in_ok-game.ensures.0)) in
    record { result_value = e.0; table_after = c.clear.ensures ∙ ap (λ (n : ℕ). replicate n 0) P ∙ e.1 }
