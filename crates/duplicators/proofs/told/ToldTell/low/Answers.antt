-- Telling by levels: they tell what (b,q,r,a) asks for.
use Rattle.std.proofs.Common.{ap, max, arith}
use lib.Arith.{digits_lt}
use Rattle.duplicators.proofs.told.ToldTell.low.Goals as goal

pub bounds-self-r : goal.bounds-self-r
bounds-self-r c = omega (arith, digits_lt c.requires.in_range.0 c.requires.in_range.1, c.requires.can_tell.0)

pub returns : goal.returns
returns c = ap (max _) (c.requires.can_tell.1 c.low_among.result c.low_among.ensures)
