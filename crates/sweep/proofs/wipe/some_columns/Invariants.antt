-- `sweep::some_columns` meets its contract: what is still to come are states, so that the words of their columns are inside the list.
use Rattle.std.proofs.Common.{ℕ, ◌<◌}
use Rattle.words.specs.Word.{In}
use Rattle.sweep.proofs.wipe.some_columns.Given as goal

abbrev pub invariant-loop-r : goal.invariant-loop-r
invariant-loop-r l = (r : ℕ) → In r l.r-iterator.left → r < l.states
