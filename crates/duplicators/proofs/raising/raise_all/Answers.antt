-- `duplicators::raising::raise_all` meets its contract: the candidates of the letters before a are at rest.
use Rattle.std.proofs.Common.{arith}
use Rattle.arena.specs.Game.{board}
use Rattle.duplicators.proofs.Part.{low_same, parts-few}
use Rattle.duplicators.proofs.Work.{letters-start, letters-more}
use Rattle.duplicators.proofs.raising.raise_all.Goals as goal

pub loop-a-init : goal.loop-a-init
loop-a-init g c = letters-start _ _ _ _ _ _

pub raise_letter-count-requires-clause-can_tell : goal.raise_letter-count-requires-clause-can_tell
raise_letter-count-requires-clause-can_tell g c = λ r i.
    let o = c.requires.working in
    g.met.T.Tell.tells_again _ _ _ _ _ _ _
    (low_same (board c.args.game.now) c.args.game.now.arena.mode o.ready.formed c.args.table.now c.loop-a.table c.loop-a.invariant.part.others c.args.w.b c.args.w.q r c.loop-a.a o.rowed.bit o.rowed.red
    (c.requires.found_within.1 _ c.loop-a-test.true r i) c.loop-a-test.true)
    (c.requires.can_tell _ r c.loop-a-test.true i)

pub overflow_add-count : goal.overflow_add-count
overflow_add-count g c = omega (arith, parts-few c.requires.working.ready.formed c.requires.working.ready.entries c.loop-a.invariant.part c.raise_letter-count.ensures.answered_in)

pub loop-a-preserved : goal.loop-a-preserved
loop-a-preserved g c =
    let o = c.requires.working in
    letters-more (board c.args.game.now) c.args.game.now.arena.mode c.args.w.b c.args.w.q c.args.found.now o.ready.formed o.ready.entries o.rowed.bit o.rowed.red c.loop-a-test.true c.requires.found_within.1
    c.loop-a.invariant c.raise_letter-count.ensures.answered_in c.raise_letter-count.ensures.letter_still
