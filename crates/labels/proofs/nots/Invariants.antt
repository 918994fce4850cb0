-- `nots` meets its contract: the row grows by one `!` a turn, up to the first other token.
use Rattle.std.proofs.Common.{◌≤◌, ◌-◌, length}
use Rattle.tokens.specs.Tokens.{token_from}
use Rattle.labels.specs.Parts.{Nots}
use Rattle.labels.proofs.nots.Given as goal

abbrev pub invariant-loop-odd : goal.invariant-loop-odd
invariant-loop-odd l = (l.at ≤ length l.text) × Nots (token_from l.text) l.from l.odd l.at

abbrev pub decreases-loop-odd : goal.decreases-loop-odd
decreases-loop-odd l = length l.text - l.at
