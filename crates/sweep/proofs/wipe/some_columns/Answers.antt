-- `sweep::some_columns` meets its contract: what is still to come are states, so that the words of their columns are inside the list.
use Rattle.sweep.proofs.Wiping.{cut_below}
use Rattle.sweep.proofs.wipe.some_columns.Goals as goal

pub loop-r-init : goal.loop-r-init
loop-r-init c = rw (c.into_iter-r-iterator.ensures.into_iter_gives, c.members-r-items.ensures) (cut_below c.below.ensures c.meet.ensures)
