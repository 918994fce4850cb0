-- `tokens::quote_end` meets its contract: at every turn the text that is left ends where the quoted text ends.
use Rattle.std.proofs.Common.{sym, ◌∙◌, rules, arith}
use Rattle.tokens.proofs.Ends.{quote_ends, quote_escapes, quote_more, quote_last, quote_cut, quote_none}
use Rattle.tokens.proofs.quote_end.Goals as goal
use Rattle.tokens.proofs.quote_end.Goals.{else-i-text-via-then-i-text+else-text-i-eq34, else-i-text-via-else-i-text}

pub returns-then-a-eq34 : goal.returns-then-a-eq34
returns-then-a-eq34 c =
    let s = c.args.text.now in
    sym (quote_ends s c.loop-i.i (omega arith) c.if-a-eq34.true) ∙ c.loop-i.invariant.1

pub loop-i-preserved-then-a-eq92 : goal.loop-i-preserved-then-a-eq92
loop-i-preserved-then-a-eq92 c =
    let s = c.args.text.now in
    (search rules, sym (quote_escapes s c.loop-i.i (omega arith) c.if-a-eq34.false c.if-a-eq92.true) ∙ c.loop-i.invariant.1)

pub loop-i-preserved : goal.loop-i-preserved
loop-i-preserved c =
    let s = c.args.text.now in
    (search rules, sym (quote_more s c.loop-i.i (omega arith) c.if-a-eq34.false c.if-a-eq92.false) ∙ c.loop-i.invariant.1)

pub returns-then-text-i-eq34 : goal.returns-then-text-i-eq34
returns-then-text-i-eq34 c =
    let s = c.args.text.now in
    sym (quote_last s c.loop-i.i (omega arith) c.if-text-i-eq34.true) ∙ c.loop-i.invariant.1

pub returns : goal.returns
returns c =
    let s = c.args.text.now in
    elim c.else-i-text.branch [
      | else-i-text-via-then-i-text+else-text-i-eq34 w ↦ sym (quote_cut s c.loop-i.i (omega arith) w.if-text-i-eq34.false) ∙ c.loop-i.invariant.1
      | else-i-text-via-else-i-text w ↦ sym (quote_none s c.loop-i.i (omega arith)) ∙ c.loop-i.invariant.1
    ]
