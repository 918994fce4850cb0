-- `levels::candidates::reach` meets its contract: the candidates found so far have a move to a member that is still to come.
use Rattle.levels.proofs.Reaching.{reach-start, reach-more, reach-end}
use Rattle.levels.proofs.candidates.reach.Goals as goal

pub loop-x-init : goal.loop-x-init
loop-x-init c = rw (c.into_iter-x-iterator.ensures.into_iter_gives, c.members-x-items.ensures) (reach-start _ _ _ _)

pub loop-x-preserved : goal.loop-x-preserved
loop-x-preserved c = reach-more _ _ _ _ c.in-Some.ensures.steps.1 c.loop-x.invariant c.join-found.ensures

pub returns : goal.returns
returns c = reach-end _ _ _ _ c.in-None.ensures.steps.0 c.loop-x.invariant
