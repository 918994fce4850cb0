-- `verdicts::best::scan` meets its contract: move i is taken up if it leaves r by a, and passed over else.
use Rattle.std.proofs.Common.{sym, ap, ◌∙◌, Option, Some, ◌&&◌, ◌+◌, ◌*◌, ◌<◌, eqb, length, drop, arith}
use Rattle.automaton.specs.declared.Move.{Move}
use Rattle.verdicts.specs.declared.best.Best.{Best}
use Rattle.verdicts.specs.Best.{improved, best_of}
use Rattle.verdicts.proofs.Scanned.{goals, scan-taken, scan_passed}
use Rattle.verdicts.proofs.best.scan.Goals.{then-eq, else-eq}
use Rattle.verdicts.proofs.best.scan.Invariants.{entry}
use Rattle.verdicts.proofs.best.scan.Goals as goal

pub loop-i-preserved : goal.loop-i-preserved
loop-i-preserved c =
    let a = c.args in
    let ms = a.game.now.moves.now in
    let i = c.loop-i.i in
    let f = entry a.game.now a.table.now a.b a.q in
    let inside : i * 3 + 2 < length ms = omega arith in
    let left : Option Best → Option Best = λ best. best_of f best (goals a.r a.a (drop ((i + 1) * 3) ms)) in
    let leaves = ap (λ (m : Move). eqb m.from a.r && eqb m.letter a.a) (sym c.at-from.ensures) ∙ sym c.eq.ensures in
    let to-is = ap (λ (m : Move). m.to) c.at-from.ensures in
    elim c.if-eq.branch [
      | then-eq w ↦
          let led = w.entry_after.ensures ∙ ap f to-is in
          ap left (w.best-is ∙ ap Some (w.improve.ensures ∙ (λ j. improved c.loop-i.best (to-is j) (led j))))
          ∙ scan-taken f c.loop-i.best a.r a.a ms i inside (leaves ∙ w.if-eq.true)
          ∙ c.loop-i.invariant
      | else-eq w ↦ ap left w.best-is ∙ scan_passed f c.loop-i.best a.r a.a ms i inside (leaves ∙ w.if-eq.false) ∙ c.loop-i.invariant
    ]
