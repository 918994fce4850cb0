-- `spoilers::push` meets its contract. The invariant: all that is marked for the bits below b is heeded.
use Rattle.std.proofs.Common.{sym, arith}
use Rattle.arena.specs.Game.{board}
use Rattle.halves.specs.Rising.{rising}
use Rattle.spoilers.specs.Work.{Working}
use Rattle.spoilers.proofs.Parts.{pushed_then, working_kept, raising-most}
use Rattle.spoilers.proofs.Through.{upto_more}
use Rattle.spoilers.proofs.Whole.{all_spoiling, whole}
use Rattle.spoilers.proofs.Pushes.{layered_kept}
use Rattle.spoilers.proofs.Calms.{working_start, calm-floor, calm_covered}
use Rattle.spoilers.proofs.push.Goals.{Start}
use Rattle.spoilers.proofs.push.Goals as goal

-- the half is under way from the start
starts : (c : Start) → Working c.args.game.now (rising c.args.table.now c.args.risen.now c.args.rows.now c.args.olds.now)
starts c = let a = c.args in working_start a.game.now a.table.now a.risen.now a.rows.now a.olds.now c.requires.ready c.requires.roomy c.requires.capped (calm-floor (board a.game.now) a.game.now.arena.mode a.table.now a.grown.now a.columns.now c.requires.all_calm) c.requires.blank

pub layer-raised-requires-clause-working : goal.layer-raised-requires-clause-working
layer-raised-requires-clause-working c = let done = c.loop-b.invariant in working_kept (starts (goal.at.layer-raised-requires-clause-working c).Start) done.pushed done.sized

pub overflow_add-raised : goal.overflow_add-raised
overflow_add-raised c = omega (arith, raising-most ((starts (goal.at.overflow_add-raised c).Start).raising) (pushed_then (board c.args.game.now) c.args.game.now.arena.mode c.loop-b.invariant.pushed c.layer-raised.ensures.pushed))

pub loop-b-preserved : goal.loop-b-preserved
loop-b-preserved c =
    upto_more c.loop-b.invariant c.layer-raised.ensures.pushed (record { risen = c.layer-raised.auto.risen; rows = c.layer-raised.auto.rows; olds = c.layer-raised.auto.olds })
    c.layer-raised.ensures.layered (layered_kept _ _ c.layer-raised.ensures.pushed c.args.grown.now c.args.columns.now)

pub returns : goal.returns
returns c =
    let a = c.args in
    let B = board a.game.now in
    let s = rising c.loop-b.table c.loop-b.risen c.loop-b.rows c.loop-b.olds in
    let done = c.loop-b.invariant in
    let ended = all_spoiling B a.game.now.arena.mode a.table.now a.risen.now a.rows.now a.olds.now s c.requires.blank done.pushed in
    let half = whole B a.game.now.arena.mode a.table.now a.risen.now a.rows.now a.olds.now s c.requires.blank done.pushed c.requires.ready.formed
    (calm_covered B a.game.now.arena.mode c.requires.ready.formed a.grown.now a.columns.now c.requires.all_calm done.pushed (λ b h. done.each b (omega (arith, c.layers_of-b-end.ensures)))) in
    record { halved = rw c.requires.ready.paired half; value = sym ended.count; all_noted = ended.noted }
