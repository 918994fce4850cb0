-- `spoilers::pulling::pull_one` meets its contract: a small High is heeded already, and for another the entry is raised to what High gives it.
use Rattle.std.proofs.Common.{◌∙◌, ap}
use Rattle.arena.specs.Game.{board}
use Rattle.spoilers.proofs.Parts.{pushed_none}
use Rattle.spoilers.proofs.Pulls.{pull-below, pull-due, pull-done}
use Rattle.spoilers.proofs.pulling.pull_one.Goals as goal

pub returns-then-h-c : goal.returns-then-h-c
returns-then-h-c c =
    let p = c.requires in
    record { pushed = pushed_none (board c.args.game.now) c.args.game.now.arena.mode _; heeds = pull-below p.working p.shaped c.args.q p.state_in_game c.high_of-h.result c.high_of-h.ensures c.if-h-c.true }

pub raise-requires-clause-due : goal.raise-requires-clause-due
raise-requires-clause-due c =
    let p = c.requires in
    pull-due p.working p.shaped c.args.q p.state_in_game c.high_of-h.result c.high_of-h.ensures (c.to-e.ensures ∙ ap (λ f. f c.args.q) c.gift.ensures) c.if-h-c.false

pub returns : goal.returns
returns c =
    let p = c.requires in
    let pushed = c.raise.ensures.pushed in
    record {
      pushed = pushed;
      heeds = pull-done p.working p.shaped c.args.q p.state_in_game c.high_of-h.result c.high_of-h.ensures (c.to-e.ensures ∙ ap (λ f. f c.args.q) c.gift.ensures) c.if-h-c.false
          c.raise.new.table pushed.grown pushed.others c.raise.ensures.held;
    }
