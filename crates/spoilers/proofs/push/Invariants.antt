-- `spoilers::push` meets its contract. The invariant: all that is marked for the bits below b is heeded.
use Rattle.arena.specs.Game.{board}
use Rattle.halves.specs.Rising.{rising}
use Rattle.spoilers.specs.Front.{Layered}
use Rattle.spoilers.proofs.Through.{Upto}
use Rattle.spoilers.proofs.push.Given as goal

abbrev pub invariant-loop-b : goal.invariant-loop-b
invariant-loop-b l =
    Upto (board l.game) l.game.arena.mode (Layered (board l.game) l.game.arena.mode l.grown l.columns) (rising l.initial.table l.initial.risen l.initial.rows l.initial.olds) (rising l.table l.risen l.rows l.olds) l.raised l.b
