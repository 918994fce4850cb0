-- `read` meets its contract: what reading comes to from the token that is next, it comes to from the first.
use Rattle.std.proofs.Common.{◌≤◌, ◌-◌, length}
use Rattle.tokens.specs.Tokens.{token_from}
use Rattle.headers.specs.declared.Wanted.TheVariants.{Format}
use Rattle.headers.specs.Header.{unsaid}
use Rattle.headers.specs.Walk.{Outcome, Walk}
use Rattle.headers.proofs.read.Given as goal

abbrev pub invariant-loop-w : goal.invariant-loop-w
invariant-loop-w l = (l.at ≤ length l.text) × ((r : Outcome) → Walk (token_from l.text) l.wanted l.said l.at r → Walk (token_from l.text) Format unsaid 0 r)

abbrev pub decreases-loop-w : goal.decreases-loop-w
decreases-loop-w l = length l.text - l.at
