-- What is written ends within the bytes.
use Rattle.std.proofs.Common.{◌≤◌, length}
use Rattle.compare.proofs.draw.moves_of.Given as goal

abbrev pub invariant-loop-number : goal.invariant-loop-number
invariant-loop-number l = l.bytes ≤ length l.moves
