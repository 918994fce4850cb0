-- `words::meet` meets its contract: a digit of a & b is the lesser of the two.
use Rattle.words.proofs.Operations.{met_made}
use Rattle.words.proofs.meet.Goals as goal

pub returns : goal.returns
returns c = met_made c.args.a c.args.b
