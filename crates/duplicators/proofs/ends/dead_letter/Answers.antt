-- `duplicators::ends::dead_letter` meets its contract: the set holds those among the first r states; a word of steps is 0, or has a lowest member.
use Rattle.std.proofs.Common.{inl, inr}
use Rattle.words.proofs.Digits.{low_set}
use Rattle.duplicators.proofs.Ending.{dead_start, dead_more}
use Rattle.duplicators.proofs.ends.dead_letter.Goals.{then-onto-r-eq0, else-onto-r-eq0}
use Rattle.duplicators.proofs.ends.dead_letter.Goals as goal

pub loop-r-init : goal.loop-r-init
loop-r-init c = dead_start _ _ _

pub loop-r-preserved : goal.loop-r-preserved
loop-r-preserved c = dead_more _ _ _ c.loop-r.invariant
    (elim c.if-onto-r-eq0.branch [
      | then-onto-r-eq0 w ↦ inl (w.if-onto-r-eq0.true, rw w.dead-is w.with-dead.ensures)
      | else-onto-r-eq0 w ↦ inr ((_, (low_set 64 _ (c.type_inv.onto _).fits w.if-onto-r-eq0.false).1), w.dead-is)
    ])
