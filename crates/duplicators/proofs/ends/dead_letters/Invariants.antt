-- `duplicators::ends::dead_letters` meets its contract: the first a words are found, and `any` has what they hold.
use Rattle.std.proofs.Common.{ℕ, ◌<◌}
use Rattle.games.specs.Game.{at}
use Rattle.levels.specs.Candidates.{AllIn}
use Rattle.duplicators.specs.Ends.{Dead}
use Rattle.duplicators.proofs.ends.dead_letters.Given as goal

abbrev pub invariant-loop-a : goal.invariant-loop-a
invariant-loop-a l = ((i : ℕ) → i < l.a → Dead l.onto l.k i l.n (at l.word-items i)) × AllIn l.a l.word-items l.any
