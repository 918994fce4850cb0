-- `spoilers::layer::layer` meets its contract. The invariant: all that is marked for the columns that are not left is heeded.
use Rattle.arena.specs.Game.{board}
use Rattle.halves.specs.Rising.{rising}
use Rattle.spoilers.specs.Front.{Columned}
use Rattle.spoilers.proofs.Through.{Through}
use Rattle.spoilers.proofs.layer.layer.Given as goal

abbrev pub invariant-loop-r : goal.invariant-loop-r
invariant-loop-r l =
    Through (board l.game) l.game.arena.mode (l.initial.r-iterator.left) (Columned (board l.game) l.game.arena.mode l.grown l.b) (rising l.initial.table l.initial.risen l.initial.rows l.initial.olds) (rising l.table l.risen l.rows l.olds) l.raised l.r-iterator.left
