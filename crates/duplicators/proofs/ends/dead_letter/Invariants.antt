-- `duplicators::ends::dead_letter` meets its contract: the set holds those among the first r states.
use Rattle.duplicators.specs.Ends.{Dead}
use Rattle.duplicators.proofs.ends.dead_letter.Given as goal

abbrev pub invariant-loop-r : goal.invariant-loop-r
invariant-loop-r l = Dead l.onto l.k l.a l.r l.dead
