-- `spoilers::raise::put` meets its contract. The invariant: the members of hit that are not left have what they are given.
use Rattle.std.proofs.Common.{◌≤◌}
use Rattle.games.specs.Game.{at}
use Rattle.simulation.specs.Position.{pair}
use Rattle.arena.specs.Game.{board}
use Rattle.halves.specs.Rising.{rising}
use Rattle.spoilers.specs.Work.{dealt}
use Rattle.spoilers.proofs.Through.{Through}
use Rattle.spoilers.proofs.raise.put.Given as goal

abbrev pub invariant-loop-q : goal.invariant-loop-q
invariant-loop-q l =
    Through (board l.game) l.game.arena.mode (l.hit) (λ t q. dealt l.gift q ≤ at t (pair (board l.game) l.b q l.r)) (rising l.initial.table l.initial.risen l.initial.rows l.initial.olds) (rising l.table l.risen l.rows l.olds) l.raised l.q-iterator.left
