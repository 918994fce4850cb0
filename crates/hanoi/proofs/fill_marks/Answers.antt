-- `fill_marks` meets its contract: the first q bytes are the marks of their states and the others as they were.
use Rattle.std.proofs.Common.{ap, ◌∙◌, List, ◌++◌, map, ℕ, set, drop, arith}
use Rattle.games.specs.Settle.{ascending}
use Rattle.simulation.proofs.Listed.{written-more}
use Rattle.hanoi.specs.Writing.{mark_of}
use Rattle.hanoi.proofs.fill_marks.Goals as goal

pub loop-q-preserved : goal.loop-q-preserved
loop-q-preserved c =
    let a = c.args in
    let mark : ℕ → ℕ = mark_of a.sheet.now in
    ap (λ (l : List ℕ). set l c.loop-q.q c.mark_of.result) c.loop-q.invariant
    ∙ ap (λ (v : ℕ). set (map mark (ascending 0 c.loop-q.q) ++ drop c.loop-q.q a.marks.now) c.loop-q.q v) c.mark_of.ensures
    ∙ written-more mark c.loop-q.q a.marks.now (omega arith)
