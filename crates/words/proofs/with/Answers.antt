-- `words::with` meets its contract: the word of x alone has no other member.
use Rattle.words.proofs.Operations.{bit_of, with_made}
use Rattle.words.proofs.with.Goals as goal

pub returns : goal.returns
returns c = rw (bit_of c.args.x c.requires) (with_made c.args.m c.args.x)
