-- `spoilers::pulling::high_of` meets its contract. The invariant: h is High by the letters below a.
use Rattle.arena.specs.Game.{board}
use Rattle.spoilers.specs.Pull.{HighTo}
use Rattle.spoilers.proofs.pulling.high_of.Given as goal

abbrev pub invariant-loop-a : goal.invariant-loop-a
invariant-loop-a l =
    HighTo (board l.game) l.game.arena.mode l.table l.c.bit l.q l.c.blue l.a l.h
