-- `tokens::skip` meets its contract: at every turn the gap that is left, inside the comments open so far, ends where the gap ends.
use Rattle.std.proofs.Common.{◌≡◌, ◌-◌, ◌≤◌, length, drop}
use Rattle.tokens.specs.Tokens.{gap}
use Rattle.tokens.proofs.skip.Given as goal

abbrev pub invariant-loop-i : goal.invariant-loop-i
invariant-loop-i l = (l.i ≤ length l.text) × (l.inside ≤ l.i) × (gap (drop l.i l.text) l.inside l.i ≡ gap (drop l.from l.text) 0 l.from)

abbrev pub decreases-loop-i : goal.decreases-loop-i
decreases-loop-i l = length l.text - l.i
