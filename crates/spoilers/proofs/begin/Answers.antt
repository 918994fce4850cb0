-- `spoilers::begin` meets its contract. The invariant: the positions with a bit below b have what they ask for with High 0.
use Rattle.std.proofs.Common.{sym, le_trans, arith}
use Rattle.arena.specs.Game.{board}
use Rattle.halves.specs.Rising.{rising}
use Rattle.spoilers.specs.Work.{Raising}
use Rattle.spoilers.proofs.Parts.{pushed_then, raising-kept, raising-most}
use Rattle.spoilers.proofs.Through.{upto_more}
use Rattle.spoilers.proofs.Whole.{raising-start, all_spoiling, whole}
use Rattle.spoilers.proofs.Floors.{zeros-asked}
use Rattle.spoilers.proofs.begin.Goals.{Start}
use Rattle.spoilers.proofs.begin.Goals as goal

-- the half is under way from the start
starts : (c : Start) → Raising c.args.game.now (rising c.args.table.now c.args.risen.now c.args.rows.now c.args.olds.now)
starts c = let a = c.args in raising-start a.game.now a.table.now a.risen.now a.rows.now a.olds.now c.requires.ready c.requires.roomy c.requires.blank

pub begin_layer-raised-requires-clause-raising : goal.begin_layer-raised-requires-clause-raising
begin_layer-raised-requires-clause-raising c = let done = c.loop-b.invariant in raising-kept (starts (goal.at.begin_layer-raised-requires-clause-raising c).Start) done.pushed done.sized

pub overflow_add-raised : goal.overflow_add-raised
overflow_add-raised c = omega (arith, raising-most (starts (goal.at.overflow_add-raised c).Start) (pushed_then (board c.args.game.now) c.args.game.now.arena.mode c.loop-b.invariant.pushed c.begin_layer-raised.ensures.pushed))

pub loop-b-preserved : goal.loop-b-preserved
loop-b-preserved c =
    upto_more c.loop-b.invariant c.begin_layer-raised.ensures.pushed (record { risen = c.begin_layer-raised.auto.risen; rows = c.begin_layer-raised.auto.rows; olds = c.begin_layer-raised.auto.olds })
    c.begin_layer-raised.ensures.all_floored (λ y h i j q n. le_trans (h i j q n) (c.begin_layer-raised.ensures.pushed.grown _))

pub returns : goal.returns
returns c =
    let a = c.args in
    let B = board a.game.now in
    let s = rising c.loop-b.table c.loop-b.risen c.loop-b.rows c.loop-b.olds in
    let done = c.loop-b.invariant in
    let ended = all_spoiling B a.game.now.arena.mode a.table.now a.risen.now a.rows.now a.olds.now s c.requires.blank done.pushed in
    let half = whole B a.game.now.arena.mode a.table.now a.risen.now a.rows.now a.olds.now s c.requires.blank done.pushed c.requires.ready.formed
    (λ b q r hb hq hr. zeros-asked B a.game.now.arena.mode c.requires.ready.formed a.table.now c.requires.zeros b q r _ hb hq hr (done.each b (omega (arith, c.layers_of-b-end.ensures)) r hr q hq)) in
    record { halved = rw c.requires.ready.paired half; value = sym ended.count; all_noted = ended.noted }
