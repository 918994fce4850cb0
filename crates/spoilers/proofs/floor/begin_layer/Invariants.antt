-- `spoilers::floor::begin_layer` meets its contract. The invariant: the columns below r have what they ask for with High 0.
use Rattle.arena.specs.Game.{board}
use Rattle.halves.specs.Rising.{rising}
use Rattle.spoilers.specs.Floor.{Floored}
use Rattle.spoilers.proofs.Through.{Upto}
use Rattle.spoilers.proofs.floor.begin_layer.Given as goal

abbrev pub invariant-loop-r : goal.invariant-loop-r
invariant-loop-r l =
    Upto (board l.game) l.game.arena.mode (Floored (board l.game) l.game.arena.mode l.b) (rising l.initial.table l.initial.risen l.initial.rows l.initial.olds) (rising l.table l.risen l.rows l.olds) l.raised l.r
