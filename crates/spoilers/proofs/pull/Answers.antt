-- `spoilers::pull` meets its contract. The invariant: the positions with a bit below b heed all of their moves.
use Rattle.std.proofs.Common.{sym, arith}
use Rattle.arena.specs.Game.{board}
use Rattle.halves.specs.Rising.{rising}
use Rattle.spoilers.specs.Work.{Working}
use Rattle.spoilers.proofs.Parts.{pushed_then, working_kept, raising-most}
use Rattle.spoilers.proofs.Through.{upto_more}
use Rattle.spoilers.proofs.Whole.{all_spoiling, whole}
use Rattle.spoilers.proofs.Pulls.{all_heed_kept, pull_covered}
use Rattle.spoilers.proofs.Calms.{working_start}
use Rattle.spoilers.proofs.pull.Goals.{Start}
use Rattle.spoilers.proofs.pull.Goals as goal

-- the half is under way from the start
starts : (c : Start) → Working c.args.game.now (rising c.args.table.now c.args.risen.now c.args.rows.now c.args.olds.now)
starts c = let a = c.args in working_start a.game.now a.table.now a.risen.now a.rows.now a.olds.now c.requires.ready c.requires.roomy c.requires.capped c.requires.floored c.requires.blank

pub pull_layer-raised-requires-clause-working : goal.pull_layer-raised-requires-clause-working
pull_layer-raised-requires-clause-working c = let done = c.loop-b.invariant in working_kept (starts (goal.at.pull_layer-raised-requires-clause-working c).Start) done.pushed done.sized

pub overflow_add-raised : goal.overflow_add-raised
overflow_add-raised c = omega (arith, raising-most ((starts (goal.at.overflow_add-raised c).Start).raising) (pushed_then (board c.args.game.now) c.args.game.now.arena.mode c.loop-b.invariant.pushed c.pull_layer-raised.ensures.pushed))

pub loop-b-preserved : goal.loop-b-preserved
loop-b-preserved c =
    upto_more c.loop-b.invariant c.pull_layer-raised.ensures.pushed (record { risen = c.pull_layer-raised.auto.risen; rows = c.pull_layer-raised.auto.rows; olds = c.pull_layer-raised.auto.olds })
    c.pull_layer-raised.ensures.all_heed (all_heed_kept _ _ c.pull_layer-raised.ensures.pushed)

pub returns : goal.returns
returns c =
    let a = c.args in
    let B = board a.game.now in
    let s = rising c.loop-b.table c.loop-b.risen c.loop-b.rows c.loop-b.olds in
    let done = c.loop-b.invariant in
    let ended = all_spoiling B a.game.now.arena.mode a.table.now a.risen.now a.rows.now a.olds.now s c.requires.blank done.pushed in
    let half = whole B a.game.now.arena.mode a.table.now a.risen.now a.rows.now a.olds.now s c.requires.blank done.pushed c.requires.ready.formed
    (pull_covered B a.game.now.arena.mode done.pushed c.requires.ready.formed c.requires.floored (λ b h. done.each b (omega (arith, c.layers_of-b-end.ensures)))) in
    record { halved = rw c.requires.ready.paired half; value = sym ended.count; all_noted = ended.noted }
