-- `duplicators::raising::raise_letter` meets its contract: the candidates that are not left are at rest.
use Rattle.std.proofs.Common.{arith}
use Rattle.arena.specs.Game.{board}
use Rattle.duplicators.proofs.Part.{low_same, parts-few}
use Rattle.duplicators.proofs.Work.{letter-start, letter-more, letter-end}
use Rattle.duplicators.proofs.raising.raise_letter.Goals as goal

pub loop-r-init : goal.loop-r-init
loop-r-init g c = rw (c.into_iter-r-iterator.ensures.into_iter_gives, c.members-r-items.ensures) (letter-start _ _ _ _ _ _ _)

pub low-low-requires-clause-can_tell : goal.low-low-requires-clause-can_tell
low-low-requires-clause-can_tell g c =
    let popped = c.in-Some.ensures.steps.1 in
    let o = c.requires.working in
    let i = c.loop-r.invariant.sub _ popped.here in
    g.met.T.Tell.tells_again _ _ _ _ _ _ _
    (low_same (board c.args.game.now) c.args.game.now.arena.mode o.ready.formed c.args.table.now c.loop-r.table c.loop-r.invariant.part.others c.args.w.b c.args.w.q _ c.args.a o.rowed.bit o.rowed.red (c.requires.in_range.1 _ i) c.requires.in_range.0)
    (c.requires.can_tell _ i)

pub overflow_add-count : goal.overflow_add-count
overflow_add-count g c = omega (arith, parts-few c.requires.working.ready.formed c.requires.working.ready.entries c.loop-r.invariant.part c.raise-rose.ensures.answered_in, c.from-count.ensures)

pub loop-r-preserved : goal.loop-r-preserved
loop-r-preserved g c =
    let o = c.requires.working in
    letter-more (board c.args.game.now) c.args.game.now.arena.mode c.args.w.b c.args.w.q c.args.a c.args.candidates o.ready.formed o.ready.entries o.rowed.bit o.rowed.red c.requires.in_range.0 c.requires.in_range.1
    c.in-Some.ensures.steps.1 c.loop-r.invariant (rw c.from-count.ensures c.raise-rose.ensures.answered_in) c.raise-rose.ensures.still

pub returns : goal.returns
returns g c =
    let both = letter-end (board c.args.game.now) c.args.game.now.arena.mode c.args.w.b c.args.w.q c.args.a c.args.candidates c.in-None.ensures.steps.0 c.loop-r.invariant in
    record { answered_in = both.0; letter_still = both.1 }
