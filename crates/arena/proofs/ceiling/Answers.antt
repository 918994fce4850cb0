-- `arena::ceiling` meets its contract: T stands in the arena.
use Rattle.std.proofs.Common.{sym, ap, ◌∙◌}
use Rattle.std.proofs.lemmas.Result.{err_from_is_err_and}
use Rattle.automaton.specs.Answer.{valued, unless}
use Rattle.arena.specs.declared.Arena.{Arena}
use Rattle.arena.specs.Job.{game_of}
use Rattle.arena.proofs.Open.{enter_shut, enter_open}
use Rattle.arena.proofs.ceiling.Goals as goal

pub returns-in_err-g : goal.returns-in_err-g
returns-in_err-g c =
    let j = c.args.job.now in
    let p = err_from_is_err_and c.from_residual.result c.from_residual.ensures.1 in
    rw (p.1, p.2) (sym (ap (λ f. unless f (valued (game_of j).T)) (enter_shut j _ (sym c.in_err-g.ensures))))

pub returns : goal.returns
returns c =
    let j = c.args.job.now in
    let (e, d) = enter_open j c.in_ok-g.g (sym c.in_ok-g.ensures) in
    sym (ap (λ f. unless f (valued (game_of j).T)) e ∙ ap (λ (g : Arena). valued g.top) d)
