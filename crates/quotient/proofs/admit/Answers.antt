-- `quotient::admit` meets its contract: the mode of the arena that was entered is looked at before the length is.
use Rattle.std.proofs.Common.{sym, ◌∙◌}
use Rattle.std.proofs.lemmas.Result.{err_from_is_err_and}
use Rattle.arena.proofs.Open.{enter_small}
use Rattle.quotient.proofs.Admission.{admitted_shut, admitted-wrong, admitted-fitted}
use Rattle.quotient.proofs.admit.Goals as goal

pub returns-then-not-merges : goal.returns-then-not-merges
returns-then-not-merges c = admitted-wrong c.args.job.now c.args.entries c.in_ok-g.g (sym c.in_ok-g.ensures) (sym c.merges.ensures ∙ c.if-not-merges.true)

pub fit-requires : goal.fit-requires
fit-requires c =
    let both = enter_small c.args.job.now c.in_ok-g.g (sym c.in_ok-g.ensures) in
    record { pairs_bound = both.0; letters_le_most_letters = both.1 }

pub returns-in_err-g : goal.returns-in_err-g
returns-in_err-g c =
    let p = err_from_is_err_and c.from_residual.result c.from_residual.ensures.1 in
    rw (p.1, p.2) (admitted_shut c.args.job.now c.args.entries _ (sym c.in_err-g.ensures))

pub returns : goal.returns
returns c = c.fit.ensures ∙ admitted-fitted c.args.job.now c.args.entries c.in_ok-g.g (sym c.in_ok-g.ensures) (sym c.merges.ensures ∙ c.if-not-merges.false)
