-- `halves::accepting` meets its contract. The invariant: the word holds the states below q with mark 1.
use Rattle.halves.proofs.Drawing.{seen-begun, seen_one, seen_none}
use Rattle.halves.proofs.accepting.Goals.{then-mark-eq1, else-mark-eq1}
use Rattle.halves.proofs.accepting.Goals as goal

pub loop-q-init : goal.loop-q-init
loop-q-init c = seen-begun c.args.game.now.marks.now

pub loop-q-preserved : goal.loop-q-preserved
loop-q-preserved c =
    let marks = c.args.game.now.marks.now in
    elim c.if-mark-eq1.branch [
      | then-mark-eq1 w ↦ rw w.acc-is (seen_one marks c.loop-q.acc c.loop-q.q c.loop-q.invariant w.with-acc.result w.if-mark-eq1.true w.with-acc.ensures)
      | else-mark-eq1 w ↦ rw w.acc-is (seen_none marks c.loop-q.acc c.loop-q.q c.loop-q.invariant w.if-mark-eq1.false)
    ]
