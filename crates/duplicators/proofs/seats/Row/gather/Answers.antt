-- `duplicators::seats::Row::gather` meets its contract: the first x entries are gathered.
use Rattle.std.proofs.Common.{arith}
use Rattle.duplicators.proofs.Gathering.{at-most-start}
use Rattle.duplicators.proofs.seats.Row.gather.Goals as goal

pub loop-x-init : goal.loop-x-init
loop-x-init c = (λ x l. absurd (omega arith), at-most-start _ _)
