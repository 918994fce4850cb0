-- `spoilers::layer::column` meets its contract. The invariant: all that is marked by the letters below a is heeded, and those that have had the greatest entry have what it gives.
use Rattle.arena.specs.Game.{board}
use Rattle.halves.specs.Rising.{rising}
use Rattle.spoilers.specs.Front.{Guarded, Lettered}
use Rattle.spoilers.proofs.Through.{Upto}
use Rattle.spoilers.proofs.layer.column.Given as goal

abbrev pub invariant-loop-a : goal.invariant-loop-a
invariant-loop-a l =
    Upto (board l.game) l.game.arena.mode (Lettered (board l.game) l.game.arena.mode l.grown l.c.bit l.c.blue) (rising l.initial.table l.initial.risen l.initial.rows l.initial.olds) (rising l.table l.risen l.rows l.olds) l.raised l.a
    × Guarded (board l.game) l.game.arena.mode l.table l.c l.front
