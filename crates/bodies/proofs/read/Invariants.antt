-- `read` meets its contract: what reading comes to from the token that is next, it comes to from the first.
use Rattle.std.proofs.Common.{◌≤◌, ◌-◌, length}
use Rattle.bodies.proofs.Going.{Going}
use Rattle.bodies.proofs.read.Given as goal

abbrev pub invariant-loop-d : goal.invariant-loop-d
invariant-loop-d l = (l.at ≤ length l.text) × Going l.text l.states l.props l.from l.due l.sheet l.seen l.at

abbrev pub decreases-loop-d : goal.decreases-loop-d
decreases-loop-d l = length l.text - l.at
