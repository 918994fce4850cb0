-- `words::join` meets its contract: a digit of a | b is the greater of the two.
use Rattle.words.proofs.Operations.{joined_made}
use Rattle.words.proofs.join.Goals as goal

pub returns : goal.returns
returns c = joined_made c.args.a c.args.b
