-- `duplicators::ends::end_layer` meets its contract: the candidates in the rows before q are at rest.
use Rattle.arena.specs.Game.{board}
use Rattle.duplicators.specs.Growing.{growing}
use Rattle.duplicators.proofs.Ending.{Ending}
use Rattle.duplicators.proofs.ends.end_layer.Given as goal

abbrev pub invariant-loop-q : goal.invariant-loop-q
invariant-loop-q l = Ending (board l.game) l.game.arena.mode l.found l.b (growing l.initial.table l.initial.grown l.initial.columns) (growing l.table l.grown l.columns) l.q l.count
