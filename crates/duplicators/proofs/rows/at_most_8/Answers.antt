-- `duplicators::rows::at_most_8` meets its contract: the count is at most 8 at each turn, and no word has more than 64 members.
use Rattle.std.proofs.Common.{◌≤◌, arith}
use Rattle.levels.proofs.Peeling.{digits-most}
use Rattle.duplicators.proofs.rows.at_most_8.Goals as goal

pub overflow_add-count : goal.overflow_add-count
overflow_add-count c = let small : c.size-count.result ≤ 64 = rw c.size-count.ensures (digits-most _ 64) in omega arith
