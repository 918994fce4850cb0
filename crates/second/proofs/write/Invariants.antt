-- Each byte that is written adds 1 at most.
use Rattle.std.proofs.Common.{◌≤◌}
use Rattle.second.proofs.write.Given as goal

abbrev pub invariant-loop-i : goal.invariant-loop-i
invariant-loop-i l = l.ones ≤ l.i
