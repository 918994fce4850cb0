-- `relation::reply` meets its contract: refusals 1 to 12 are decided first, then what the reply at the position is.
use Rattle.std.proofs.Common.{sym, ap, ◌∙◌, arith}
use Rattle.std.proofs.lemmas.Result.{err_from_is_err_and}
use Rattle.simulation.specs.Answers.{reply_at}
use Rattle.arena.proofs.Games.{opens_playable}
use Rattle.arena.proofs.Open.{shut_fault}
use Rattle.table.specs.Answers.{found}
use Rattle.relation.proofs.Effects.{replying_shut, replying-above, replying-beyond, replying-restless, replying-does}
use Rattle.relation.proofs.Opened.{faultless, board_is, mode_is, entries}
use Rattle.relation.proofs.Tested.{rest-refused, rest-placed, rest-one, rest-tells}
use Rattle.relation.proofs.reply.Goals as goal

pub returns-in_err-game : goal.returns-in_err-game
returns-in_err-game c =
    let a = c.args in
    let p = err_from_is_err_and c.from_residual.result c.from_residual.ensures.1 in
    rw (p.1, p.2) (sym (replying_shut a.job.now a.table.now a.position _ (shut_fault a.job.now a.table.now _ c.in_err-game.ensures)))

pub returns-in_err-restless : goal.returns-in_err-restless
returns-in_err-restless c =
    let a = c.args in
    let j = a.job.now in
    let t = a.table.now in
    let o = faultless j t c.in_ok-game.game c.in_ok-game.ensures in
    let p = err_from_is_err_and c.from_residual-in_err-restless.result c.from_residual-in_err-restless.ensures.1 in
    rw (p.1, p.2) (sym (replying-above j t o a.position _ (rest-refused j t o _ c.in_err-restless.ensures)))

pub returns-then-table-position : goal.returns-then-table-position
returns-then-table-position c =
    let a = c.args in
    let j = a.job.now in
    let t = a.table.now in
    let o = faultless j t c.in_ok-game.game c.in_ok-game.ensures in
    sym (replying-beyond j t o a.position (rest-tells j t o _ c.in_ok-restless.ensures) (omega (arith, entries j t c.in_ok-game.game c.in_ok-game.ensures)))

pub returns-in-Some : goal.returns-in-Some
returns-in-Some c =
    let a = c.args in
    let j = a.job.now in
    let t = a.table.now in
    let o = faultless j t c.in_ok-game.game c.in_ok-game.ensures in
    let lowest = rest-placed j t o c.in-Some.lowest (sym (ap found c.in-Some.is) ∙ c.in_ok-restless.ensures) in
    sym (replying-restless j t o a.position _ lowest (omega (arith, entries j t c.in_ok-game.game c.in_ok-game.ensures)))

pub reply_at-requires-clause-playable : goal.reply_at-requires-clause-playable
reply_at-requires-clause-playable c = let a = c.args in opens_playable a.job.now a.table.now c.in_ok-game.game c.in_ok-game.ensures

pub returns-in-None : goal.returns-in-None
returns-in-None c =
    let a = c.args in
    let j = a.job.now in
    let t = a.table.now in
    let opens = c.in_ok-game.ensures in
    let o = faultless j t c.in_ok-game.game opens in
    let rests = rest-one j t o (sym (ap found c.in-None.is) ∙ c.in_ok-restless.ensures) in
    c.reply_at.ensures
    ∙ (λ i. reply_at (board_is j t c.in_ok-game.game opens i) (mode_is j t c.in_ok-game.game opens i) t a.position)
    ∙ sym (replying-does j t o a.position rests (omega (arith, entries j t c.in_ok-game.game opens)))
