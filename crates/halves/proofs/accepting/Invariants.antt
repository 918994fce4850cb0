-- `halves::accepting` meets its contract. The invariant: the word holds the states below q with mark 1.
use Rattle.halves.proofs.Drawing.{Seen}
use Rattle.halves.proofs.accepting.Given as goal

abbrev pub invariant-loop-q : goal.invariant-loop-q
invariant-loop-q l = Seen l.game.marks.now l.acc l.q
