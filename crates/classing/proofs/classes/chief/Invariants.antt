-- `classing::classes::chief` meets its contract. The invariant: the first state from r on that equals q is the first of all.
use Rattle.std.proofs.Common.{◌≡◌, ◌-◌}
use Rattle.automaton.specs.First.{first}
use Rattle.simulation.specs.Quotient.{chief, equal}
use Rattle.arena.specs.Seats.{bare}
use Rattle.classing.proofs.classes.chief.Given as goal

abbrev pub invariant-loop-r : goal.invariant-loop-r
invariant-loop-r l = first (equal (bare l.seats.arena l.seats.marks.now) l.seats.arena.mode l.seats.table.now l.q) l.r (l.q - l.r) ≡ chief (bare l.seats.arena l.seats.marks.now) l.seats.arena.mode l.seats.table.now l.q
