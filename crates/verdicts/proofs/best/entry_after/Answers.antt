-- `verdicts::best::entry_after` meets its contract: it reads the entry of Spoiler's position that Blue's move leads to.
use Rattle.std.proofs.Common.{◌<◌, arith}
use Rattle.automaton.specs.Board.{Board, accepts}
use Rattle.simulation.specs.Position.{layers}
use Rattle.simulation.proofs.Inward.{eased_lt}
use Rattle.arena.specs.Seats.{bare}
use Rattle.arena.proofs.Seats.{seat_lt}
use Rattle.verdicts.proofs.best.entry_after.Goals as goal

pub bounds-table-bit : goal.bounds-table-bit
bounds-table-bit c =
    let a = c.args in
    let g = a.game.now in
    let p = c.requires.position in
    let board : Board = bare g.arena g.marks.now in
    let bit_lt : c.eased-bit.result < layers g.arena.mode = omega (arith, c.eased-bit.ensures, eased_lt g.arena.mode (accepts board a.s) a.b p.0) in
    omega (arith, seat_lt g.arena g.marks.now a.table.now c.requires.seated c.eased-bit.result a.q a.s bit_lt p.1 p.2)
