-- `survey::lines` meets its contract: the lines left, surveyed with what is known so far, say what all lines say.
use Rattle.std.proofs.Common.{◌∙◌, arith, sym}
use Rattle.text.proofs.Steps.{few-more, past_further, surveyed-formless, surveyed-none, surveyed-on, surveyed-stop}
use Rattle.text.proofs.survey.lines.Goals as goal

pub returns-in_default : goal.returns-in_default
returns-in_default c =
    surveyed-formless c.loop-at.before c.loop-at.number c.loop-at.known c.args.text.now c.loop-at.at c.next-read.result c.next-read.ensures c.loop-at-test.true c.in_default.is ∙
    c.loop-at.invariant.left

pub returns-then-not-stands : goal.returns-then-not-stands
returns-then-not-stands c =
    surveyed-stop c.loop-at.before c.loop-at.number c.loop-at.known c.args.text.now c.loop-at.at c.next-read.result c.next-read.ensures c.loop-at-test.true c.in-Some.line c.in-Some.is (sym c.stands.ensures ∙ c.if-not-stands.true) ∙
    c.loop-at.invariant.left

pub loop-at-smaller : goal.loop-at-smaller
loop-at-smaller c = omega (arith, past_further c.args.text.now c.loop-at.at c.next-read.result c.next-read.ensures c.loop-at-test.true)

pub loop-at-preserved : goal.loop-at-preserved
loop-at-preserved c =
    let further = past_further c.args.text.now c.loop-at.at c.next-read.result c.next-read.ensures c.loop-at-test.true in
    record {
      within = further.1;
      numbered = omega (arith, further);
      few = rw c.with-known.ensures (few-more c.loop-at.known c.in-Some.line c.loop-at.at c.next-read.result.past c.loop-at.invariant.few further.0);
      left = rw c.with-known.ensures (surveyed-on c.loop-at.before c.loop-at.number c.loop-at.known c.args.text.now c.loop-at.at c.next-read.result c.next-read.ensures c.loop-at-test.true c.in-Some.line c.in-Some.is (sym c.stands.ensures ∙ c.if-not-stands.false)) ∙
          c.loop-at.invariant.left;
    }

pub returns-in-Some-before : goal.returns-in-Some-before
returns-in-Some-before c =
    rw c.in-Some-before.is at (surveyed-none c.loop-at.before c.loop-at.number c.loop-at.known c.args.text.now c.loop-at.at c.loop-at-test.false ∙ c.loop-at.invariant.left)

pub returns-in-None : goal.returns-in-None
returns-in-None c =
    rw c.in-None.is at (surveyed-none c.loop-at.before c.loop-at.number c.loop-at.known c.args.text.now c.loop-at.at c.loop-at-test.false ∙ c.loop-at.invariant.left)
