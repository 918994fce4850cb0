-- `spoilers::pulling::pull_column` meets its contract. The invariant: the positions of the states below q heed all of their moves.
use Rattle.arena.specs.Game.{board}
use Rattle.halves.specs.Rising.{rising}
use Rattle.spoilers.specs.Pull.{Heeds}
use Rattle.spoilers.proofs.Through.{Upto}
use Rattle.spoilers.proofs.pulling.pull_column.Given as goal

abbrev pub invariant-loop-q : goal.invariant-loop-q
invariant-loop-q l =
    Upto (board l.game) l.game.arena.mode (Heeds (board l.game) l.game.arena.mode l.c.bit l.c.blue) (rising l.initial.table l.initial.risen l.initial.rows l.initial.olds) (rising l.table l.risen l.rows l.olds) l.raised l.q
