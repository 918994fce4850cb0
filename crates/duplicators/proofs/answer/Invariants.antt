-- `duplicators::answer` meets its contract: the layers before b are at rest.
use Rattle.arena.specs.Game.{board}
use Rattle.duplicators.specs.Growing.{growing}
use Rattle.duplicators.proofs.Whole.{Half}
use Rattle.duplicators.proofs.answer.Given as goal

abbrev pub invariant-loop-b : goal.invariant-loop-b
invariant-loop-b l = Half (board l.game) l.game.arena.mode (growing l.initial.table l.initial.grown l.initial.columns) (growing l.table l.grown l.columns) l.b l.count
