-- `arena::for_table` meets its contract: what `enter` gave is held against the length.
use Rattle.std.proofs.Common.{sym, ◌∙◌}
use Rattle.std.proofs.lemmas.Result.{err_from_is_err_and}
use Rattle.arena.proofs.Open.{enter_small, opened_shut, opened-fitted}
use Rattle.arena.proofs.for_table.Goals as goal

pub fit-requires : goal.fit-requires
fit-requires c =
    let both = enter_small c.args.job.now c.in_ok-g.g (sym c.in_ok-g.ensures) in
    record { pairs_bound = both.0; letters_le_most_letters = both.1 }

pub returns-in_err-g : goal.returns-in_err-g
returns-in_err-g c =
    let p = err_from_is_err_and c.from_residual.result c.from_residual.ensures.1 in
    rw (p.1, p.2) (opened_shut c.args.job.now c.args.entries _ (sym c.in_err-g.ensures))

pub returns : goal.returns
returns c = c.fit.ensures ∙ opened-fitted c.args.job.now c.args.entries c.in_ok-g.g (sym c.in_ok-g.ensures)
