-- `levels::candidates::spare` meets its contract: what is left of the candidates has no move to a member that came before.
use Rattle.std.proofs.Common.{inl, inr}
use Rattle.levels.proofs.Reaching.{spare_more, spare-end}
use Rattle.levels.proofs.candidates.spare.Goals as goal

pub loop-x-preserved : goal.loop-x-preserved
loop-x-preserved c = spare_more _ _ _ _ c.in-Some.ensures.steps.1 c.loop-x.invariant c.minus-found.ensures

pub returns-in-None : goal.returns-in-None
returns-in-None c = spare-end _ _ _ _ (inl c.in-None.ensures.steps.0) c.loop-x.invariant

pub returns-then-found-eq0 : goal.returns-then-found-eq0
returns-then-found-eq0 c = spare-end _ _ _ _ (inr c.if-found-eq0.true) c.loop-x.invariant
