-- `rounds::sweeps` meets its contract. The invariant: the lists are as long as they were, the next sweep may begin, and the defined settle goes on from
-- the table unless the last sweep raised nothing. The measure is what the entries' sum lacks of P times T, and a sweep that raises nothing.
use Rattle.arena.specs.Game.{board, played}
use Rattle.sweep.specs.Poised.{Poised}
use Rattle.sweep.proofs.Room.{lists, Alike}
use Rattle.rounds.proofs.Onward.{Onward, remaining}
use Rattle.rounds.proofs.sweeps.Given as goal

abbrev pub invariant-loop-last : goal.invariant-loop-last
invariant-loop-last l =
    Alike (lists l.fn.table l.fn.risen l.fn.rows l.fn.olds l.fn.grown l.fn.columns) (lists l.table l.risen l.rows l.olds l.grown l.columns)
    × Poised (board l.game) l.game.arena.mode l.table l.risen l.grown l.columns
    × Onward (played l.game) l.raised l.last l.table

abbrev pub decreases-loop-last : goal.decreases-loop-last
decreases-loop-last l = remaining (played l.game) l.last l.table
