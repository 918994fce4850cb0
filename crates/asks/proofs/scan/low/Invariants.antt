-- `asks::scan::low` meets its contract. The invariant: the lesser of the least so far and of the lowest among the moves
-- from i on is the lowest of all, and the least so far is at most top.
use mathlib.Core.Path.{◌≡◌}
use mathlib.Core.List.{map}
use Prim.Native.Nat.{◌-◌, ◌≤◌, min}
use Rattle.games.specs.Game.{at, lowest}
use Rattle.games.specs.Settle.{ascending}
use Rattle.asks.specs.Steps.{spot_of, ahead}
use Rattle.asks.proofs.scan.low.Given as goal

abbrev pub invariant-loop-i : goal.invariant-loop-i
invariant-loop-i l = (l.s.lo ≤ l.i) × (l.i ≤ l.s.hi) × (l.least ≤ l.game.arena.top) × (min l.least (lowest l.game.arena.top (at l.table) (map (spot_of l.s l.game.marks.now l.game.moves.now) (ascending l.i (l.s.hi - l.i)))) ≡ lowest l.game.arena.top (at l.table) (ahead l.s l.game.marks.now l.game.moves.now))
