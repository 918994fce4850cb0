-- `spoilers::front::Front::fresh` meets its contract: an entry that is no greater may raise only those that have not had the greatest.
use Rattle.spoilers.proofs.Fronts.{fresh-less}
use Rattle.spoilers.proofs.front.Front.fresh.Goals as goal

pub returns-else-v-self : goal.returns-else-v-self
returns-else-v-self c = fresh-less _ _ _ _ _ c.if-v-self.false c.minus.ensures
