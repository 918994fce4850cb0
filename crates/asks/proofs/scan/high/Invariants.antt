-- `asks::scan::high` meets its contract. The invariant: the greater of the greatest so far and of the highest among the moves
-- from i on is the highest of all.
use mathlib.Core.Path.{◌≡◌}
use mathlib.Core.List.{map}
use Prim.Native.Nat.{◌-◌, ◌≤◌, max}
use Rattle.games.specs.Game.{at, highest}
use Rattle.games.specs.Settle.{ascending}
use Rattle.asks.specs.Steps.{spot_of, ahead}
use Rattle.asks.proofs.scan.high.Given as goal

abbrev pub invariant-loop-i : goal.invariant-loop-i
invariant-loop-i l = (l.s.lo ≤ l.i) × (l.i ≤ l.s.hi) × (max l.greatest (highest (at l.table) (map (spot_of l.s l.game.marks.now l.game.moves.now) (ascending l.i (l.s.hi - l.i)))) ≡ highest (at l.table) (ahead l.s l.game.marks.now l.game.moves.now))
