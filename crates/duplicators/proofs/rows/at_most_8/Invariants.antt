-- `duplicators::rows::at_most_8` meets its contract: the count is at most 8 at each turn, and no word has more than 64 members.
use Rattle.std.proofs.Common.{◌≤◌}
use Rattle.duplicators.proofs.rows.at_most_8.Given as goal

abbrev pub invariant-loop-word : goal.invariant-loop-word
invariant-loop-word l = l.count ≤ 8
