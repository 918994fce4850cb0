-- `asks::scan::low` meets its contract. The invariant: the lesser of the least so far and of the lowest among the moves
-- from i on is the lowest of all, and the least so far is at most top.
use mathlib.Core.Path.{ap}
use native.Mathlib.Omega.{arith}
use Rattle.games.specs.Game.{at}
use Rattle.games.proofs.Asked.{lowest-cap}
use Rattle.asks.specs.Steps.{spot_of, ahead}
use Rattle.asks.proofs.Stretch.{low_step, low_end}
use Rattle.asks.proofs.scan.low.Goals.{then-entry-least, else-entry-least}
use Rattle.asks.proofs.scan.low.Goals as goal

pub loop-i-init : goal.loop-i-init
loop-i-init c =
    let a = c.args in
    let most = lowest-cap a.game.now.arena.top (at a.table.now) (ahead a.s a.game.now.marks.now a.game.now.moves.now) in
    omega (arith, most, c.requires.leading.order)

pub loop-i-preserved : goal.loop-i-preserved
loop-i-preserved c =
    let a = c.args in
    let step = low_step (at a.table.now) (spot_of a.s a.game.now.marks.now a.game.now.moves.now) c.loop-i.i a.s.hi a.game.now.arena.top (omega arith) in
    let entry = ap (at a.table.now) c.spot.ensures in
    elim c.if-entry-least.branch [
      | then-entry-least w ↦ omega (arith, step, entry)
      | else-entry-least w ↦ omega (arith, step, entry)
    ]

pub returns : goal.returns
returns c =
    let a = c.args in
    omega (arith, low_end (at a.table.now) (spot_of a.s a.game.now.marks.now a.game.now.moves.now) c.loop-i.i a.s.hi a.game.now.arena.top (omega arith))
