-- `duplicators::layers::fresh_in` meets its contract: the members of each word that are in its own set.
use Rattle.duplicators.proofs.Reds.{fresh_made}
use Rattle.duplicators.proofs.layers.fresh_in.Goals as goal

pub returns : goal.returns
returns c = fresh_made c.meet.ensures c.meet-2.ensures c.join.ensures
