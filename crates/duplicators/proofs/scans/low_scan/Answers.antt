-- `duplicators::scans::low_scan` meets its contract: `low` is the least over the members that are not left.
use Rattle.std.proofs.Common.{inl}
use Rattle.levels.proofs.Seeking.{seek_start, seek_more, seek_end, seek_past}
use Rattle.duplicators.proofs.scans.low_scan.Goals as goal

pub loop-x-init : goal.loop-x-init
loop-x-init c = rw (c.into_iter-x-iterator.ensures.into_iter_gives, c.members-x-items.ensures) (seek_start _ _ _)

pub loop-x-preserved : goal.loop-x-preserved
loop-x-preserved c = seek_more _ _ _ c.in-Some.ensures.steps.1 c.loop-x.invariant c.seen.ensures c.min-low.ensures

pub returns-in-None : goal.returns-in-None
returns-in-None c = inl (seek_end _ _ _ c.in-None.ensures.steps.0 c.loop-x.invariant)

pub returns-then-low-old : goal.returns-then-low-old
returns-then-low-old c = seek_past _ _ _ c.if-low-old.true c.loop-x.invariant
