-- `rounds::sweeps` meets its contract. The invariant: the lists are as long as they were, the next sweep may begin, and the defined settle goes on from
-- the table unless the last sweep raised nothing. The measure is what the entries' sum lacks of P times T, and a sweep that raises nothing.
use Rattle.std.proofs.Common.{arith}
use Rattle.games.proofs.Sweeping.{sweeping_none, sweeping_raised}
use Rattle.arena.specs.Game.{board, played}
use Rattle.sweep.proofs.Room.{alike, alike_more}
use Rattle.rounds.proofs.Onward.{onward, onward-less, bound-most}
use Rattle.rounds.proofs.sweeps.Goals as goal

pub loop-last-init : goal.loop-last-init
loop-last-init c =
    let first = c.first-last in
    let left = first.new in (
      alike first.auto.table first.auto.risen first.auto.rows first.auto.olds first.auto.grown first.auto.columns,
      first.ensures.poised,
      onward (played c.args.game.now) left.table (rw c.requires.table_value (sweeping_none (played c.args.game.now))) first.ensures.value first.ensures.table_after,
    )

pub overflow_add-raised : goal.overflow_add-raised
overflow_add-raised c =
    let s = c.loop-last.invariant.2.more (omega arith) in
    omega (arith, bound-most (board c.args.game.now) c.args.game.now.arena.mode c.requires.equipped.ready.formed, sweeping_raised (played c.args.game.now) _ _ s)

pub loop-last-preserved : goal.loop-last-preserved
loop-last-preserved c =
    let s = c.loop-last.invariant.2.more (omega arith) in
    let again = c.again-last in (
      alike_more c.loop-last.invariant.0 (alike again.auto.table again.auto.risen again.auto.rows again.auto.olds again.auto.grown again.auto.columns),
      again.ensures.poised_again,
      onward (played c.args.game.now) again.new.table s again.ensures.value again.ensures.table_after,
    )

pub loop-last-smaller : goal.loop-last-smaller
loop-last-smaller c =
    let s = c.loop-last.invariant.2.more (omega arith) in
    onward-less (played c.args.game.now) c.again-last.new.table s c.again-last.ensures.value c.again-last.ensures.table_after (omega arith)
