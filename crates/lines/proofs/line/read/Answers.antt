-- `line::read` meets its contract: behind a fourth field there is none.
use Rattle.fields.specs.Bytes.{tab}
use Rattle.lines.specs.Lines.{meaning}
use Rattle.lines.proofs.Pieces.{cut-first}
use Rattle.lines.proofs.line.read.Goals as goal

pub returns-in-Some-rest : goal.returns-in-Some-rest
unfolding meaning
returns-in-Some-rest c =
    simp (c.front.ensures, c.in_ok-rest.was, c.front-2.ensures, c.in-Some.is, c.front-3.ensures, c.in_ok-rest-2.was, c.front-4.ensures, c.in-Some-rest.is, cut-first tab c.in-Some-rest.field-0.now)
