-- `levels::candidates::reach_all` meets its contract: the first a words are found, and no word has more than 64 members.
use Rattle.std.proofs.Common.{length-take-le, arith}
use Rattle.levels.specs.Candidates.{Reach}
use Rattle.levels.proofs.Stored.{stored}
use Rattle.levels.proofs.Peeling.{digits-most}
use Rattle.levels.proofs.candidates.reach_all.Goals as goal

pub overflow_add-count : goal.overflow_add-count
overflow_add-count c = omega (arith, c.size-count.ensures, digits-most c.reach.result 64, length-take-le c.args.k c.args.found.now)

pub loop-a-preserved : goal.loop-a-preserved
loop-a-preserved c = (
  omega (arith, c.size-count.ensures, digits-most c.reach.result 64),
  stored (Reach c.args.into.now c.args.k c.args.fresh) c.loop-a.word-items c.loop-a.a c.reach.result (omega arith) c.loop-a.invariant.1 c.reach.ensures,
)
