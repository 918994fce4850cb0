-- `fields::put` meets its contract: a store where there is room, and nothing past the end.
use Rattle.std.proofs.Common.{sym}
use Rattle.fields.proofs.Laid.{stop-one, stop-past, laid_one, laid-past}
use Rattle.fields.proofs.put.Goals as goal

pub returns-then-at-out : goal.returns-then-at-out
returns-then-at-out c = record { value = sym (stop-one _ _ _ c.if-at-out.true); out_after = sym (laid_one _ _ _) }

pub returns : goal.returns
returns c = record { value = sym (stop-past _ _ _ c.if-at-out.false); out_after = sym (laid-past _ _ _ c.if-at-out.false) }
