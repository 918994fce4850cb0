-- `sweep::some_rows` meets its contract: words have only been emptied, and each row of the set is still to come or is empty.
use Rattle.std.proofs.Common.{inl, refl, ◌+◌, ◌<◌, length, set, get_or-set_same, arith}
use Rattle.sweep.proofs.Wiping.{emptied_zero, emptied_at, emptied_on, visit-begun, visit-more, visit-done}
use Rattle.sweep.proofs.wipe.some_rows.Goals as goal

pub loop-q-init : goal.loop-q-init
loop-q-init c = (λ i. inl refl, rw (c.into_iter-q-iterator.ensures.into_iter_gives, c.members-q-items.ensures) (visit-begun c.below.ensures c.meet.ensures))

pub loop-q-preserved : goal.loop-q-preserved
loop-q-preserved c =
    let popped = c.in-Some.ensures.steps.1 in
    let risen = c.loop-q.risen in
    let first = c.args.first in
    let i = first + c.in-Some.q in
    let here : i < length risen = omega (arith, c.loop-q.invariant.1.within _ popped.here) in
    let emptied = emptied_at risen i here in (
      emptied_on c.args.risen.now risen (set risen i 0) c.loop-q.invariant.0 emptied,
      visit-more popped (λ x z. emptied_zero risen (set risen i 0) emptied (first + x) z) (get_or-set_same risen i 0 0 here) c.loop-q.invariant.1,
    )

pub returns : goal.returns
returns c = record { emptied = c.loop-q.invariant.0; rows_empty = visit-done c.in-None.ensures.steps.0 c.loop-q.invariant.1 }
