-- `spoilers::letter::letter` meets its contract. The invariant: the sources that are not left are heeded, and those that have had the greatest entry have what it gives.
use Rattle.arena.specs.Game.{board}
use Rattle.halves.specs.Rising.{rising}
use Rattle.spoilers.specs.Front.{Guarded, Heard}
use Rattle.spoilers.proofs.Through.{Through}
use Rattle.spoilers.proofs.letter.letter.Given as goal

abbrev pub invariant-loop-x : goal.invariant-loop-x
invariant-loop-x l =
    Through (board l.game) l.game.arena.mode (l.initial.x-iterator.left) (Heard (board l.game) l.game.arena.mode l.c.bit l.c.blue l.a) (rising l.initial.table l.initial.risen l.initial.rows l.initial.olds) (rising l.table l.risen l.rows l.olds) l.raised l.x-iterator.left
    × Guarded (board l.game) l.game.arena.mode l.table l.c l.front
