-- `automaton::first_high` meets its contract: `position` finds the first mark that the test is true of.
use Rattle.std.proofs.Common.{ltb, rules, tests, ◌∙◌}
use Rattle.std.proofs.lemmas.Iterator.{YieldsList-from_slice}
use Rattle.std.proofs.lemmas.Iterator.Search.{position_from_yields_List}
use Rattle.automaton.proofs.First.{first_below-position}
use Rattle.automaton.proofs.first_high.Goals as goal

pub returns : goal.returns
returns c =
    position_from_yields_List (ltb 1) _ _ _ c.position.ensures.ran (YieldsList-from_slice c.args.marks.now (cc)) (λ x b q k. search (rules, tests))
    ∙ first_below-position (ltb 1) c.args.marks.now
