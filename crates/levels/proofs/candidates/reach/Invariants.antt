-- `levels::candidates::reach` meets its contract: the candidates found so far have a move to a member that is not left.
use Rattle.levels.proofs.Reaching.{Reaching}
use Rattle.levels.proofs.candidates.reach.Given as goal

abbrev pub invariant-loop-x : goal.invariant-loop-x
invariant-loop-x l = Reaching l.into l.k l.fresh l.a l.x-iterator.left l.found
