-- `fill_marks` meets its contract: the first q bytes are the marks of their states and the others as they were.
use Rattle.std.proofs.Common.{◌≡◌, ◌++◌, map, drop}
use Rattle.games.specs.Settle.{ascending}
use Rattle.hanoi.specs.Writing.{mark_of}
use Rattle.hanoi.proofs.fill_marks.Given as goal

abbrev pub invariant-loop-q : goal.invariant-loop-q
invariant-loop-q l = l.marks ≡ map (mark_of l.sheet) (ascending 0 l.q) ++ drop l.q l.initial.marks
