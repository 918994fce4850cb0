-- `duplicators::seats::Row::gather` meets its contract: the first x entries are gathered.
use Rattle.duplicators.specs.Rows.{Gathered, AtMost}
use Rattle.duplicators.proofs.seats.Row.gather.Given as goal

abbrev pub invariant-loop-x : goal.invariant-loop-x
invariant-loop-x l = Gathered l.acc l.x l.table l.self l.entry-items × AtMost l.x l.entry-items l.old l.low
