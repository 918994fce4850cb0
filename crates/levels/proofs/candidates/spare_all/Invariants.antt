-- `levels::candidates::spare_all` meets its contract: the first a words are spared, the others as they were, and `any` has what is left.
use Rattle.std.proofs.Common.{◌≡◌, ℕ, ◌≤◌, ◌<◌}
use Rattle.games.specs.Game.{at}
use Rattle.levels.specs.Candidates.{AllIn, Spared}
use Rattle.levels.proofs.candidates.spare_all.Given as goal

abbrev pub invariant-loop-a : goal.invariant-loop-a
invariant-loop-a l =
    ((i : ℕ) → i < l.a → Spared l.into l.k l.low i (at l.fn.found i) (at l.word-items i)) × ((i : ℕ) → l.a ≤ i → i < l.k → at l.word-items i ≡ at l.fn.found i) × AllIn l.a l.word-items l.any
