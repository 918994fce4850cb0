-- `duplicators::scans::low_scan` meets its contract: `low` is the least over the members that are not left.
use Rattle.levels.proofs.Seeking.{Seeking}
use Rattle.duplicators.specs.Rows.{seen_in}
use Rattle.duplicators.proofs.scans.low_scan.Given as goal

abbrev pub invariant-loop-x : goal.invariant-loop-x
invariant-loop-x l = Seeking (seen_in l.acc l.table l.w) l.steps l.top l.x-iterator.left l.low
