-- `entries::first_restless` meets its contract: `find` stops at the first number that the test is true of.
use Rattle.std.proofs.Common.{ℕ, length, arith, refl, sym, ◌∙◌, rules, tests}
use Rattle.std.proofs.lemmas.Iterator.{YieldsList-from_range}
use Rattle.std.proofs.lemmas.Iterator.Adapters.{option_map_id}
use Rattle.std.proofs.lemmas.Iterator.Search.{find_from_yields_List}
use Rattle.automaton.proofs.First.{first_below-find}
use Rattle.arena.specs.Game.{played}
use Rattle.entries.specs.Found.{restless}
use Rattle.entries.proofs.first_restless.Goals as goal

pub returns : goal.returns
returns c =
    let test = restless (played c.args.index.now.game) c.args.table.now in
    let count : ℕ = length c.args.table.now in
    sym (option_map_id _)
    ∙ find_from_yields_List test _ _ c.find.result c.find.ensures.ran (YieldsList-from_range 0 count count refl (omega arith)) (λ x b q k. search (rules, tests))
    ∙ first_below-find test count
