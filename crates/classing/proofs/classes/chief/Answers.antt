-- `classing::classes::chief` meets its contract.
use Rattle.std.proofs.Common.{◌≡◌, sym, ◌∙◌, arith}
use Rattle.automaton.proofs.First.{first-here, first_passed, first-end}
use Rattle.classing.proofs.classes.chief.Goals as goal

pub returns-then-are_equal : goal.returns-then-are_equal
returns-then-are_equal c = sym (first-here _ _ _ (sym c.are_equal.ensures ∙ c.if-are_equal.true)) ∙ c.loop-r.invariant

pub loop-r-preserved : goal.loop-r-preserved
loop-r-preserved c = first_passed _ _ _ c.loop-r-test.true (sym c.are_equal.ensures ∙ c.if-are_equal.false) ∙ c.loop-r.invariant

pub returns : goal.returns
returns c =
    let end : c.args.q ≡ c.loop-r.r = omega arith in
    end ∙ sym (first-end _ _ _ c.loop-r-test.false) ∙ c.loop-r.invariant
