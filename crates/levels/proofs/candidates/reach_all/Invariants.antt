-- `levels::candidates::reach_all` meets its contract: the first a words are found, and no word has more than 64 members.
use Rattle.std.proofs.Common.{ℕ, ◌*◌, ◌≤◌, ◌<◌}
use Rattle.games.specs.Game.{at}
use Rattle.levels.specs.Candidates.{Reach}
use Rattle.levels.proofs.candidates.reach_all.Given as goal

abbrev pub invariant-loop-a : goal.invariant-loop-a
invariant-loop-a l = (l.count ≤ l.a * 64) × ((i : ℕ) → i < l.a → Reach l.into l.k l.fresh i (at l.word-items i))
