-- `table::lift_in` meets its contract: refusals 10 and 11 are decided before the lift writes.
use Rattle.std.proofs.Common.{◌≡◌, sym, ap, ◌∙◌, ℕ, Some, None, length, arith}
use Rattle.games.specs.Game.{Game}
use Rattle.games.specs.Lift.{lift, rise}
use Rattle.automaton.specs.Answer.{valued, none}
use Rattle.automaton.specs.First.{first_below}
use Rattle.automaton.specs.declared.Refusal.TheVariants.{AboveCeiling}
use Rattle.automaton.proofs.Effects.{both}
use Rattle.automaton.proofs.Fault.{fails_at-first, fails_at-none}
use Rattle.arena.specs.Game.{played}
use Rattle.arena.specs.declared.game.Game as lent
use Rattle.entries.specs.Found.{above}
use Rattle.table.specs.Calls.{entry_fault}
use Rattle.table.proofs.Effects.{lifted-above, lifted-out, lifted_in}
use Rattle.table.proofs.lift_in.Goals as goal

pub returns-in-Some : goal.returns-in-Some
returns-in-Some c =
    let game : Game = played c.args.game.now in
    let t = c.args.table.now in
    let found : Some c.in-Some.above ≡ first_below (above game.T t) (length t) = c.in-Some.ensures ∙ ap (λ (T : ℕ). first_below (above T t) (length t)) c.requires.topped in
    let e = both (sym (lifted-above game t _ c.args.position (fails_at-first AboveCeiling (above game.T t) (length t) c.in-Some.above found))) in
    record { result_value = e.0; table_after = e.1 }

pub returns-then-table-position : goal.returns-then-table-position
returns-then-table-position c =
    let game : Game = played c.args.game.now in
    let t = c.args.table.now in
    let not-above : None ≡ first_below (above game.T t) (length t) = c.in_default.ensures ∙ ap (λ (T : ℕ). first_below (above T t) (length t)) c.requires.topped in
    let low : entry_fault game t ≡ none = fails_at-none AboveCeiling (above game.T t) (length t) not-above in
    let e = both (sym (lifted-out game t c.args.position low (omega (arith, c.if-table-position.true, c.requires.entries)))) in
    record { result_value = e.0; table_after = e.1 }

pub returns : goal.returns
returns c =
    let game : Game = played c.args.game.now in
    let t = c.args.table.now in
    let not-above : None ≡ first_below (above game.T t) (length t) = c.in_default.ensures ∙ ap (λ (T : ℕ). first_below (above T t) (length t)) c.requires.topped in
    let low : entry_fault game t ≡ none = fails_at-none AboveCeiling (above game.T t) (length t) not-above in
    let v = c.args.position in
    let same = c.filled-index.ensures in
    let e = both (sym (lifted_in game t v low (omega (arith, c.if-table-position.false, c.requires.entries)))) in
    let told = ap valued (c.lift.ensures.value ∙ ap (λ (g : lent.Game). rise (played g) t v) same) ∙ e.0 in
    record {
      result_value = grind (arith, told);
      table_after = c.lift.ensures.table_after ∙ ap (λ (g : lent.Game). lift (played g) t v) same ∙ e.1;
    }
