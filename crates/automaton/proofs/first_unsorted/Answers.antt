-- `automaton::first_unsorted` meets its contract: `find` stops at the first number that the test is true of.
use Rattle.std.proofs.Common.{ℕ, ◌/◌, length, arith, refl, sym, ◌∙◌, rules, tests}
use Rattle.std.proofs.lemmas.Iterator.{YieldsList-from_range}
use Rattle.std.proofs.lemmas.Iterator.Adapters.{option_map_id}
use Rattle.std.proofs.lemmas.Iterator.Search.{find_from_yields_List}
use Rattle.automaton.specs.Board.{unsorted}
use Rattle.automaton.proofs.First.{first_below-find}
use Rattle.automaton.proofs.first_unsorted.Goals as goal

pub returns : goal.returns
returns c =
    let test = unsorted c.args.moves.now in
    let count : ℕ = length c.args.moves.now / 3 in
    let e =
    sym (option_map_id _)
    ∙ find_from_yields_List test _ _ c.find.result c.find.ensures.ran (YieldsList-from_range 0 count count refl (omega arith)) (λ x b q k. search (rules, tests))
    ∙ first_below-find test count in
    grind (arith, e)
