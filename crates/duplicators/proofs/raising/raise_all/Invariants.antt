-- `duplicators::raising::raise_all` meets its contract: the candidates of the letters before a are at rest.
use Rattle.arena.specs.Game.{board}
use Rattle.duplicators.specs.Growing.{growing}
use Rattle.duplicators.proofs.Work.{Letters}
use Rattle.duplicators.proofs.raising.raise_all.Given as goal

abbrev pub invariant-loop-a : goal.invariant-loop-a
invariant-loop-a g l = Letters (board l.game) l.game.arena.mode l.w.b l.w.q l.found (growing l.initial.table l.initial.grown l.initial.columns) (growing l.table l.grown l.columns) l.a l.count
