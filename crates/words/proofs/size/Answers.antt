-- `words::size` meets its contract: the members are the digits that are 1, of which a word has at most 64.
use Rattle.words.proofs.Sum.{ones-sum}
use Rattle.words.proofs.size.Goals as goal

pub returns : goal.returns
returns c = ones-sum 64 c.args.m c.ranges.m.fits
