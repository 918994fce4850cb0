-- `label` and `unit` meet their contracts, which call each other: brackets may nest less deep at each call of `label`.
-- `label` gathers the letters of the units that it reads; `unit` is an atom or a label in brackets behind a row of `!`.
use Rattle.std.proofs.Common.{◌≤◌, ◌+◌, ◌-◌, length}
use Rattle.tokens.specs.Tokens.{token_from}
use Rattle.labels.proofs.Going.{Going}
use Rattle.labels.proofs.+label_unit.Given as goal

abbrev pub decreases-label : goal.decreases-label
decreases-label l = l.deeper + l.deeper + 1

abbrev pub decreases-unit : goal.decreases-unit
decreases-unit l = l.deeper + l.deeper

abbrev pub invariant-label-loop-read : goal.invariant-label-loop-read
invariant-label-loop-read l = (l.at ≤ length l.text) × Going (token_from l.text) l.props l.deeper l.from l.at l.any l.all

abbrev pub decreases-label-loop-read : goal.decreases-label-loop-read
decreases-label-loop-read l = length l.text - l.at
