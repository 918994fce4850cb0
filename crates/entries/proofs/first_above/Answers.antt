-- `entries::first_above` meets its contract: `position` finds the first entry that the test is true of.
use Rattle.std.proofs.Common.{ltb, rules, tests, ◌∙◌}
use Rattle.std.proofs.lemmas.Iterator.{YieldsList-from_slice}
use Rattle.std.proofs.lemmas.Iterator.Search.{position_from_yields_List}
use Rattle.automaton.proofs.First.{first_below-position}
use Rattle.entries.proofs.first_above.Goals as goal

pub returns : goal.returns
returns c =
    position_from_yields_List (ltb c.args.top) _ _ _ c.position.ensures.ran (YieldsList-from_slice c.args.table.now (cc)) (λ x b q k. search (rules, tests))
    ∙ first_below-position (ltb c.args.top) c.args.table.now
