-- `classing::classes::number` meets its contract. The invariant: `count` classes begin below q, and for each state below q
-- its class is written and the array has how many classes begin below it.
use Rattle.std.proofs.Common.{◌≡◌, ◌++◌, map, ℕ, ◌<◌, length, get_or, drop}
use Rattle.games.specs.Play.{count}
use Rattle.games.specs.Settle.{ascending}
use Rattle.simulation.specs.Quotient.{class_of, equal, leads}
use Rattle.arena.specs.Seats.{bare}
use Rattle.classing.proofs.classes.number.Given as goal

abbrev pub invariant-loop-q : goal.invariant-loop-q
invariant-loop-q l = record {
  sized : length l.earlier ≡ 64;
  counted : l.count ≡ count (leads (equal (bare l.seats.arena l.seats.marks.now) l.seats.arena.mode l.seats.table.now)) l.q;
  earlier : (k : ℕ) → k < l.q → get_or l.earlier k 0 ≡ count (leads (equal (bare l.seats.arena l.seats.marks.now) l.seats.arena.mode l.seats.table.now)) k;
  written : l.classes ≡ map (class_of (bare l.seats.arena l.seats.marks.now) l.seats.arena.mode l.seats.table.now) (ascending 0 l.q) ++ drop l.q l.initial.classes;
}
