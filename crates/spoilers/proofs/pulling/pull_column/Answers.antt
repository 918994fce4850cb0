-- `spoilers::pulling::pull_column` meets its contract. The invariant: the positions of the states below q heed all of their moves.
use Rattle.std.proofs.Common.{arith}
use Rattle.arena.specs.Game.{board}
use Rattle.spoilers.proofs.Parts.{pushed_none, pushed_then, working_kept, raising-most}
use Rattle.spoilers.proofs.Pushes.{column-calm}
use Rattle.spoilers.proofs.Pulls.{heeds_kept, heeds_column}
use Rattle.spoilers.proofs.Through.{upto_more}
use Rattle.spoilers.proofs.pulling.pull_column.Goals as goal

pub returns-then-c-game : goal.returns-then-c-game
returns-then-c-game c = record { pushed = pushed_none (board c.args.game.now) c.args.game.now.arena.mode _; column_heeds = λ q hq a x. column-calm c.requires.working c.of-c.ensures c.if-c-game.true a x q }

pub pull_one-rose-requires-clause-working : goal.pull_one-rose-requires-clause-working
pull_one-rose-requires-clause-working c = let done = c.loop-q.invariant in working_kept c.requires.working done.pushed done.sized

pub overflow_add-raised : goal.overflow_add-raised
overflow_add-raised c = omega (arith, raising-most c.requires.working.raising (pushed_then (board c.args.game.now) c.args.game.now.arena.mode c.loop-q.invariant.pushed c.pull_one-rose.ensures.pushed), c.from-raised.ensures)

pub loop-q-preserved : goal.loop-q-preserved
loop-q-preserved c =
    rw c.from-raised.ensures (upto_more c.loop-q.invariant c.pull_one-rose.ensures.pushed (record { risen = c.pull_one-rose.auto.risen; rows = c.pull_one-rose.auto.rows; olds = c.pull_one-rose.auto.olds })
    c.pull_one-rose.ensures.heeds (heeds_kept _ _ c.pull_one-rose.ensures.pushed c.of-c.result.bit c.of-c.result.blue))

pub returns : goal.returns
returns c = record { pushed = c.loop-q.invariant.pushed; column_heeds = heeds_column c.loop-q.table c.of-c.ensures (λ q h. c.loop-q.invariant.each q (omega arith)) }
