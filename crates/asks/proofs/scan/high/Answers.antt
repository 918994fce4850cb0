-- `asks::scan::high` meets its contract. The invariant: the greater of the greatest so far and of the highest among the moves
-- from i on is the highest of all.
use mathlib.Core.Path.{ap}
use native.Mathlib.Omega.{arith}
use Rattle.games.specs.Game.{at}
use Rattle.asks.specs.Steps.{spot_of}
use Rattle.asks.proofs.Stretch.{high-step, high_end}
use Rattle.asks.proofs.scan.high.Goals.{then-greatest-entry, else-greatest-entry}
use Rattle.asks.proofs.scan.high.Goals as goal

pub loop-i-preserved : goal.loop-i-preserved
loop-i-preserved c =
    let a = c.args in
    let step = high-step (at a.table.now) (spot_of a.s a.game.now.marks.now a.game.now.moves.now) c.loop-i.i a.s.hi (omega arith) in
    let entry = ap (at a.table.now) c.spot.ensures in
    elim c.if-greatest-entry.branch [
      | then-greatest-entry w ↦ omega (arith, step, entry)
      | else-greatest-entry w ↦ omega (arith, step, entry)
    ]

pub returns : goal.returns
returns c =
    let a = c.args in
    omega (arith, high_end (at a.table.now) (spot_of a.s a.game.now.marks.now a.game.now.moves.now) c.loop-i.i a.s.hi (omega arith))
