-- `levels::candidates::spare` meets its contract: what is left of the candidates has no move to a member that came before.
use Rattle.levels.proofs.Reaching.{Sparing}
use Rattle.levels.proofs.candidates.spare.Given as goal

abbrev pub invariant-loop-x : goal.invariant-loop-x
invariant-loop-x l = Sparing l.into l.k l.low l.a l.candidates l.x-iterator.left l.found
