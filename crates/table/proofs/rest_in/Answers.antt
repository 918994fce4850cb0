-- `table::rest_in` meets its contract: refusal 10 is decided first, then the lowest position not at rest is looked for.
use Rattle.std.proofs.Common.{◌≡◌, sym, ap, ◌∙◌, arith, ℕ, Some, None, length}
use Rattle.games.specs.Game.{Game}
use Rattle.automaton.specs.Answer.{none}
use Rattle.automaton.specs.First.{first_below}
use Rattle.automaton.specs.declared.Refusal.TheVariants.{AboveCeiling}
use Rattle.automaton.proofs.Fault.{fails_at-first, fails_at-none}
use Rattle.arena.specs.Game.{played}
use Rattle.arena.specs.declared.game.Game as lent
use Rattle.entries.specs.Found.{above, restless}
use Rattle.table.specs.Answers.{found}
use Rattle.table.specs.Calls.{entry_fault}
use Rattle.table.proofs.Effects.{rested-above, rested-found}
use Rattle.table.proofs.rest_in.Goals as goal

pub returns-in-Some : goal.returns-in-Some
returns-in-Some c =
    let game : Game = played c.args.game.now in
    let t = c.args.table.now in
    let first-above : Some c.in-Some.above ≡ first_below (above game.T t) (length t) = c.in-Some.ensures ∙ ap (λ (T : ℕ). first_below (above T t) (length t)) c.requires.topped in
    sym (rested-above game t _ (fails_at-first AboveCeiling (above game.T t) (length t) c.in-Some.above first-above))

pub returns : goal.returns
returns c =
    let game : Game = played c.args.game.now in
    let t = c.args.table.now in
    let not-above : None ≡ first_below (above game.T t) (length t) = c.in_default.ensures ∙ ap (λ (T : ℕ). first_below (above T t) (length t)) c.requires.topped in
    let low : entry_fault game t ≡ none = fails_at-none AboveCeiling (above game.T t) (length t) not-above in
    let lowest =
    c.first_restless.ensures
    ∙ ap (λ (g : lent.Game). first_below (restless (played g) t) (length t)) c.filled-index.ensures
    ∙ ap (first_below (restless game t)) c.requires.entries in
    let e = ap found lowest ∙ sym (rested-found game t low) in
    grind (arith, e)
