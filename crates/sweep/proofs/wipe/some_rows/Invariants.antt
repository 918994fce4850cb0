-- `sweep::some_rows` meets its contract: words have only been emptied, and each row of the set is still to come or is empty.
use Rattle.std.proofs.Common.{◌≡◌, ◌+◌}
use Rattle.games.specs.Game.{at}
use Rattle.sweep.specs.Poised.{Emptied}
use Rattle.sweep.proofs.Wiping.{Visit}
use Rattle.sweep.proofs.wipe.some_rows.Given as goal

abbrev pub invariant-loop-q : goal.invariant-loop-q
invariant-loop-q l = Emptied l.initial.risen l.risen × Visit l.states l.set l.q-iterator.left (λ q. at l.risen (l.first + q) ≡ 0)
