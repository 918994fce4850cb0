-- `words::rest` meets its contract: m & (m - 1) takes the lowest member away.
use Rattle.words.proofs.Operations.{pop_made}
use Rattle.words.proofs.rest.Goals as goal

pub returns : goal.returns
returns c = pop_made c.args.m c.ranges.m.fits c.requires
