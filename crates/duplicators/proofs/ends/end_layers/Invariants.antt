-- `duplicators::ends::end_layers` meets its contract: the candidates in the layers before b are at rest.
use Rattle.arena.specs.Game.{board}
use Rattle.duplicators.specs.Growing.{growing}
use Rattle.duplicators.proofs.Ending.{Ended}
use Rattle.duplicators.proofs.ends.end_layers.Given as goal

abbrev pub invariant-loop-b : goal.invariant-loop-b
invariant-loop-b l = Ended (board l.game) l.game.arena.mode l.found (growing l.initial.table l.initial.grown l.initial.columns) (growing l.table l.grown l.columns) l.b l.count
