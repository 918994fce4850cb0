-- `fill::fill` meets its contract: the lines left mark and lay, from here on, what all lines do from the start.
use Rattle.std.proofs.Common.{◌∙◌, arith}
use Rattle.text.proofs.Steps.{past_further}
use Rattle.text.proofs.Filled.{laid_end, laid_on, marked-end, marked-on}
use Rattle.text.proofs.fill.fill.Goals as goal

pub loop-at-smaller : goal.loop-at-smaller
loop-at-smaller c = omega (arith, past_further c.args.text.now c.loop-at.at c.next-read.result c.next-read.ensures c.loop-at-test.true)

pub loop-at-preserved : goal.loop-at-preserved
loop-at-preserved c =
    let s = c.args.text.now in let at = c.loop-at.at in let read = c.next-read.result in
    record {
      within = (past_further s at read c.next-read.ensures c.loop-at-test.true).1;
      marked_left = marked-on s at read c.next-read.ensures c.loop-at-test.true c.loop-at.marks c.mark.new.marks c.mark.ensures ∙ c.loop-at.invariant.marked_left;
      laid_left = laid_on s at read c.next-read.ensures c.loop-at-test.true c.loop-at.to c.lay-to.result c.loop-at.moves c.lay-to.new.moves c.lay-to.ensures.value c.lay-to.ensures.moves_after ∙ c.loop-at.invariant.laid_left;
    }

pub returns : goal.returns
returns c = record {
  marks_after = marked-end c.args.text.now c.loop-at.at c.loop-at-test.false c.loop-at.marks ∙ c.loop-at.invariant.marked_left;
  moves_after = laid_end c.args.text.now c.loop-at.at c.loop-at-test.false c.loop-at.to c.loop-at.moves ∙ c.loop-at.invariant.laid_left;
}
