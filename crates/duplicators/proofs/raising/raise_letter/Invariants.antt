-- `duplicators::raising::raise_letter` meets its contract: the candidates that are not left are at rest.
use Rattle.arena.specs.Game.{board}
use Rattle.duplicators.specs.Growing.{growing}
use Rattle.duplicators.proofs.Work.{Letter}
use Rattle.duplicators.proofs.raising.raise_letter.Given as goal

abbrev pub invariant-loop-r : goal.invariant-loop-r
invariant-loop-r g l =
    Letter (board l.game) l.game.arena.mode l.w.b l.w.q l.a l.candidates (growing l.initial.table l.initial.grown l.initial.columns) (growing l.table l.grown l.columns) l.r-iterator.left l.count
