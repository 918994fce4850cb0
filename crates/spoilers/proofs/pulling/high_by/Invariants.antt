-- `spoilers::pulling::high_by` meets its contract. The invariant: h is the greatest of `high` and of what the members that are not left lead to.
use Rattle.std.proofs.Common.{◌+◌, ◌*◌}
use Rattle.games.specs.Game.{at}
use Rattle.arena.specs.Game.{board}
use Rattle.halves.specs.Half.{challenged}
use Rattle.spoilers.proofs.Pulls.{Climbing}
use Rattle.spoilers.proofs.pulling.high_by.Given as goal

abbrev pub invariant-loop-x : goal.invariant-loop-x
invariant-loop-x l =
    Climbing (λ x. at l.table (challenged (board l.game) l.game.arena.mode l.c.bit l.c.blue x l.a)) (at l.onto (l.q * l.game.arena.letters + l.a)) l.high l.x-iterator.left l.h
