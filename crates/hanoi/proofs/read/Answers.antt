-- `read` meets its contract: the text is too long, its header is refused, or the rest is read behind it.
use Rattle.std.proofs.Common.{refl}
use Rattle.std.proofs.lemmas.Result.{err_from_is_err_and}
use Rattle.hanoi.specs.Reading.{refused, in_header}
use Rattle.hanoi.specs.Calls.{read, reading}
use Rattle.hanoi.proofs.read.Goals as goal

pub returns-in_err-headed : goal.returns-in_err-headed
unfolding reading
returns-in_err-headed c =
    let p = err_from_is_err_and c.from_residual.result c.from_residual.ensures.1 in
    rw (p.1, p.2) (read {o = refused _} c.if-limits-text.false (in_header c.in_err-headed.ensures) refl refl)
