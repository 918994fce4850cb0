-- The least entry over a set of states.
-- Functions below the calls promise it to each other; no public promise cites it.
use Rattle.std.specs.Prelude.{◌≡◌, ◌⊎◌, List, ℕ, ◌≤◌, ◌<◌}
use Rattle.games.specs.Game.{at}
use Rattle.words.specs.Word.{In, With}

-- e is the least of f over the members of the set, and T if none is less than T
pub record LowOf (f : ℕ → ℕ) (set T e : ℕ) : Type 0 where
  pub cap : e ≤ T
  pub each : (x : ℕ) → In x set → e ≤ f x
  pub some : (e ≡ T) ⊎ ((x : ℕ) × In x set × (f x ≡ e))

-- e is that least, or both are no greater than `old`
abbrev pub LowPast : (f : ℕ → ℕ) → (set T old e : ℕ) → Type 0
LowPast f set T old e = LowOf f set T e ⊎ ((e ≤ old) × ((T ≤ old) ⊎ ((x : ℕ) × In x set × (f x ≤ old))))

-- every member is less than n
abbrev pub Within : (set n : ℕ) → Type 0
Within set n = (x : ℕ) → In x set → x < n

-- every member of each of the first k words is
abbrev pub AllWithin : (k n : ℕ) → (words : List ℕ) → Type 0
AllWithin k n words = (a : ℕ) → a < k → Within (at words a) n

-- r is the set, and has x too if its entry is at most `old`
abbrev pub WithLow : (set x entry old r : ℕ) → Type 0
WithLow set x entry old r = ((entry ≤ old) × With set x r) ⊎ ((old < entry) × (r ≡ set))
