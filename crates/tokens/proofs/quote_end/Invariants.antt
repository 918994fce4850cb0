-- `tokens::quote_end` meets its contract: at every turn the text that is left ends where the quoted text ends.
use Rattle.std.proofs.Common.{◌≡◌, ◌-◌, ◌≤◌, length, drop}
use Rattle.tokens.specs.Tokens.{unquoted}
use Rattle.tokens.proofs.quote_end.Given as goal

abbrev pub invariant-loop-i : goal.invariant-loop-i
invariant-loop-i l = (l.i ≤ length l.text) × (unquoted (drop l.i l.text) l.i ≡ unquoted (drop l.from l.text) l.from)

abbrev pub decreases-loop-i : goal.decreases-loop-i
decreases-loop-i l = length l.text - l.i
