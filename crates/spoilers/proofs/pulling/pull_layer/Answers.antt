-- `spoilers::pulling::pull_layer` meets its contract. The invariant: the columns below r heed all of their moves.
use Rattle.std.proofs.Common.{arith}
use Rattle.arena.specs.Game.{board}
use Rattle.spoilers.proofs.Parts.{pushed_then, working_kept, raising-most}
use Rattle.spoilers.proofs.Pulls.{column_heeds_kept}
use Rattle.spoilers.proofs.Through.{upto_more}
use Rattle.spoilers.proofs.pulling.pull_layer.Goals as goal

pub pull_column-raised-requires-clause-working : goal.pull_column-raised-requires-clause-working
pull_column-raised-requires-clause-working c = let done = c.loop-r.invariant in working_kept c.requires.working done.pushed done.sized

pub overflow_add-raised : goal.overflow_add-raised
overflow_add-raised c = omega (arith, raising-most c.requires.working.raising (pushed_then (board c.args.game.now) c.args.game.now.arena.mode c.loop-r.invariant.pushed c.pull_column-raised.ensures.pushed))

pub loop-r-preserved : goal.loop-r-preserved
loop-r-preserved c =
    upto_more c.loop-r.invariant c.pull_column-raised.ensures.pushed (record { risen = c.pull_column-raised.auto.risen; rows = c.pull_column-raised.auto.rows; olds = c.pull_column-raised.auto.olds })
    c.pull_column-raised.ensures.column_heeds (column_heeds_kept _ _ c.pull_column-raised.ensures.pushed c.args.b)

pub returns : goal.returns
returns c = record { pushed = c.loop-r.invariant.pushed; all_heed = λ r h. c.loop-r.invariant.each r (omega arith) }
