-- `Seating::entry` meets its contract: the pair's beginning is one of Spoiler's positions, so its entry is in the table.
use Rattle.std.proofs.Common.{◌<◌, arith}
use Rattle.automaton.specs.Board.{accepts}
use Rattle.simulation.specs.Position.{layers}
use Rattle.simulation.proofs.Turns.{owed_lt}
use Rattle.arena.specs.Seats.{bare}
use Rattle.arena.proofs.Seats.{seat_lt}
use Rattle.arena.proofs.seating.Seating.entry.Goals as goal

pub bounds-self-b : goal.bounds-self-b
bounds-self-b c =
    let s = c.args.self.now in
    let (q, r) = c.requires.are_states in
    let bit : c.owed-b.result < layers s.arena.mode =
    omega (arith, c.owed-b.ensures, owed_lt s.arena.mode (accepts (bare s.arena s.marks.now) c.args.q) (accepts (bare s.arena s.marks.now) c.args.r)) in
    omega (arith, seat_lt s.arena s.marks.now s.table.now s.seated c.owed-b.result c.args.q c.args.r bit q r)
