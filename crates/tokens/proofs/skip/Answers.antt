-- `tokens::skip` meets its contract: at every turn the gap that is left, inside the comments open so far, ends where the gap ends.
use Rattle.std.proofs.Common.{sym, ◌∙◌, rules, arith}
use Rattle.tokens.proofs.Gaps.{gap-opens, gap-blank, gap-out, gap-shuts, gap_in, gap_last_blank, gap_last_out, gap-end, gap_open}
use Rattle.tokens.proofs.skip.Goals as goal
use Rattle.tokens.proofs.skip.Goals.{else-i-text-via-then-i-text+else-is_blank-2, else-i-text-via-else-i-text}

pub loop-i-preserved-then-is_opening : goal.loop-i-preserved-then-is_opening
loop-i-preserved-then-is_opening c =
    let s = c.args.text.now in
    (search rules, search rules, sym (gap-opens s c.loop-i.i (omega arith) c.loop-i.inside (sym c.is_opening.ensures ∙ c.if-is_opening.true)) ∙ c.loop-i.invariant.2)

pub loop-i-preserved-then-is_blank : goal.loop-i-preserved-then-is_blank
loop-i-preserved-then-is_blank c =
    let s = c.args.text.now in
    (search rules, search rules, sym (gap-blank s c.loop-i.i (omega arith) (sym c.is_opening.ensures ∙ c.if-is_opening.false) c.loop-i.inside (sym c.is_blank.ensures ∙ c.if-is_blank.true) c.if-inside-eq0.true) ∙ c.loop-i.invariant.2)

pub returns-else-is_blank : goal.returns-else-is_blank
returns-else-is_blank c =
    let s = c.args.text.now in
    sym (gap-out s c.loop-i.i (omega arith) (sym c.is_opening.ensures ∙ c.if-is_opening.false) c.loop-i.inside (sym c.is_blank.ensures ∙ c.if-is_blank.false) c.if-inside-eq0.true) ∙ c.loop-i.invariant.2

pub loop-i-preserved-then-is_shutting : goal.loop-i-preserved-then-is_shutting
loop-i-preserved-then-is_shutting c =
    let s = c.args.text.now in
    (search rules, search rules, sym (gap-shuts s c.loop-i.i (omega arith) (sym c.is_opening.ensures ∙ c.if-is_opening.false) c.loop-i.inside (sym c.is_shutting.ensures ∙ c.if-is_shutting.true) c.if-inside-eq0.false) ∙ c.loop-i.invariant.2)

pub loop-i-preserved : goal.loop-i-preserved
loop-i-preserved c =
    let s = c.args.text.now in
    (search rules, search rules, sym (gap_in s c.loop-i.i (omega arith) (sym c.is_opening.ensures ∙ c.if-is_opening.false) c.loop-i.inside (sym c.is_shutting.ensures ∙ c.if-is_shutting.false) c.if-inside-eq0.false) ∙ c.loop-i.invariant.2)

pub returns-then-inside-gt0 : goal.returns-then-inside-gt0
returns-then-inside-gt0 c = sym (gap_open c.args.text.now c.loop-i.inside c.loop-i.i c.loop-i.invariant.0 (omega arith) c.if-inside-gt0.true) ∙ c.loop-i.invariant.2

pub returns-then-is_blank-2 : goal.returns-then-is_blank-2
returns-then-is_blank-2 c =
    let s = c.args.text.now in
    sym (gap_last_blank s c.loop-i.i (omega arith) c.loop-i.inside (sym c.is_blank-then-i-text.ensures ∙ c.if-is_blank-2.true) (omega arith)) ∙ c.loop-i.invariant.2

pub returns : goal.returns
returns c =
    let s = c.args.text.now in
    elim c.else-i-text.branch [
      | else-i-text-via-then-i-text+else-is_blank-2 w ↦
          sym (gap_last_out s c.loop-i.i (omega arith) c.loop-i.inside (sym w.is_blank-then-i-text.ensures ∙ w.if-is_blank-2.false) (omega arith)) ∙ c.loop-i.invariant.2
      | else-i-text-via-else-i-text w ↦ sym (gap-end s c.loop-i.inside c.loop-i.i (omega arith) (omega arith)) ∙ c.loop-i.invariant.2
    ]
