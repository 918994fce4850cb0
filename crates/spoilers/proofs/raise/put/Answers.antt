-- `spoilers::raise::put` meets its contract. The invariant: the members of hit that are not left have what they are given.
use Rattle.std.proofs.Common.{le_trans, arith}
use Rattle.simulation.specs.Position.{pair}
use Rattle.arena.specs.Game.{board}
use Rattle.halves.proofs.Places.{pair-below}
use Rattle.spoilers.proofs.Parts.{pushed_then, asked-kept, raising-kept, raising-most}
use Rattle.spoilers.proofs.Through.{through_more, through_end}
use Rattle.spoilers.proofs.raise.put.Goals as goal

pub raise-rose-requires-clause-raising : goal.raise-rose-requires-clause-raising
raise-rose-requires-clause-raising c = let done = c.loop-q.invariant in raising-kept c.requires.raising done.pushed done.sized

pub raise-rose-requires-clause-due : goal.raise-rose-requires-clause-due
raise-rose-requires-clause-due c =
    let B = board c.args.game.now in
    let m = c.args.game.now.arena.mode in
    let F = c.requires.raising.ready.formed in
    let done = c.loop-q.invariant in
    let (hq, due) = c.requires.hits c.in-Some.q (done.sub c.in-Some.q c.in-Some.ensures.steps.1.here) in
    let kept = asked-kept B m F c.args.table.now c.loop-q.table done.pushed.others (pair B c.args.b c.in-Some.q c.args.r) (pair-below B m F c.args.b c.in-Some.q c.args.r c.requires.column_in_game.0 hq c.requires.column_in_game.1) in
    rw (kept, c.to.ensures) due

pub overflow_add-raised : goal.overflow_add-raised
overflow_add-raised c = omega (arith, raising-most c.requires.raising (pushed_then (board c.args.game.now) c.args.game.now.arena.mode c.loop-q.invariant.pushed c.raise-rose.ensures.pushed), c.from-raised.ensures)

pub loop-q-preserved : goal.loop-q-preserved
loop-q-preserved c =
    rw c.from-raised.ensures (through_more c.loop-q.invariant c.in-Some.ensures.steps.1 c.raise-rose.ensures.pushed (record { risen = c.raise-rose.auto.risen; rows = c.raise-rose.auto.rows; olds = c.raise-rose.auto.olds })
    (rw (← c.to.ensures) c.raise-rose.ensures.held) (λ y h. le_trans h (c.raise-rose.ensures.pushed.grown _)))

pub returns : goal.returns
returns c = record { pushed = c.loop-q.invariant.pushed; holds = through_end c.loop-q.invariant c.in-None.ensures.steps.0 }
