-- `asks::index::reach` meets its contract: `find` stops at the first move that the test is true of, and where there is none the moves end.
use Rattle.std.proofs.Common.{◌≡◌, ℕ, ◌+◌, ◌-◌, ◌/◌, Option, length, leb, arith, refl, sym, ap, ◌∙◌, rules, tests}
use Rattle.std.proofs.lemmas.Iterator.{YieldsList-from_range}
use Rattle.std.proofs.lemmas.Iterator.Adapters.{option_map_id}
use Rattle.std.proofs.lemmas.Iterator.Search.{find_from_yields_List}
use Rattle.std.specs.List.{find, range_with_len}
use Rattle.std.specs.Option.{unwrap_or}
use Rattle.asks.specs.Index.{key}
use Rattle.automaton.proofs.First.{first-find-or}
use Rattle.asks.proofs.index.reach.Goals as goal

pub returns : goal.returns
returns c =
    let test = λ (j : ℕ). leb c.args.x (key c.args.letters c.args.moves.now j) in
    let count : ℕ = length c.args.moves.now / 3 in
    let left : ℕ = count - c.args.i in
    let end : count ≡ c.args.i + left = omega (arith, c.requires.i_in_moves) in
    c.unwrap_or.ensures
    ∙ ap (λ (o : Option ℕ). unwrap_or o count) (
    sym (option_map_id _)
    ∙ find_from_yields_List test _ _ c.find.result c.find.ensures.ran (YieldsList-from_range c.args.i count left refl refl) (λ x b q k. search (rules, tests))
    )
    ∙ ap (unwrap_or (find test (range_with_len c.args.i left))) end
    ∙ first-find-or test c.args.i left
