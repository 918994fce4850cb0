-- `spoilers::pull` meets its contract. The invariant: the positions with a bit below b heed all of their moves.
use Rattle.arena.specs.Game.{board}
use Rattle.halves.specs.Rising.{rising}
use Rattle.spoilers.specs.Pull.{AllHeed}
use Rattle.spoilers.proofs.Through.{Upto}
use Rattle.spoilers.proofs.pull.Given as goal

abbrev pub invariant-loop-b : goal.invariant-loop-b
invariant-loop-b l =
    Upto (board l.game) l.game.arena.mode (AllHeed (board l.game) l.game.arena.mode) (rising l.initial.table l.initial.risen l.initial.rows l.initial.olds) (rising l.table l.risen l.rows l.olds) l.raised l.b
