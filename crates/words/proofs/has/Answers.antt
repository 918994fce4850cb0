-- `words::has` meets its contract: digit x is the lowest of the word that is shifted down by x.
use Rattle.std.proofs.Common.{refl}
use Rattle.words.proofs.Operations.{digit_at}
use Rattle.words.proofs.has.Goals as goal

pub returns : goal.returns
returns c = rw (digit_at c.args.m c.args.x) refl
