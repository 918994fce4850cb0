-- Duplicator's dead ends: positions (b,q,r,a) whose r has no move by a.
-- Functions below the calls promise it to each other; no public promise cites it.
use Rattle.std.specs.Prelude.{◌≡◌, ◌⊎◌, List, ℕ, ◌+◌, ◌*◌, ◌<◌}
use Rattle.games.specs.Game.{at}
use Rattle.words.specs.Word.{In, With}
use Rattle.automaton.specs.declared.Mode.{Mode}
use Rattle.automaton.specs.Board.{Board}
use Rattle.simulation.specs.Position.{layers}
use Rattle.duplicators.specs.Rows.{FoundStill}

-- r is the set and has x too, where x has no steps; or it is the set, and there is a step
abbrev pub WithDead : (set x steps r : ℕ) → Type 0
WithDead set x steps r = ((steps ≡ 0) × With set x r) ⊎ (((y : ℕ) × In y steps) × (r ≡ set))

-- the set holds the states below n without a move by a
pub record Dead (onto : List ℕ) (k a n set : ℕ) : Type 0 where
  pub within : (r : ℕ) → In r set → (r < n) × (at onto (r * k + a) ≡ 0)
  pub all : (r : ℕ) → r < n → In r set ⊎ ((x : ℕ) × In x (at onto (r * k + a)))

-- for each letter, word a of `found` holds those
abbrev pub AllDead : (onto : List ℕ) → (k n : ℕ) → (found : List ℕ) → Type 0
AllDead onto k n found = (a : ℕ) → a < k → Dead onto k a n (at found a)

-- the candidates of each row of a layer are at rest, and so are those of each layer
abbrev pub LayerFound : Board → Mode → (t : List ℕ) → (b : ℕ) → (found : List ℕ) → Type 0
LayerFound B m t b found = (q : ℕ) → q < B.n → FoundStill B m t b q B.k found

abbrev pub EachFound : Board → Mode → (t : List ℕ) → (found : List ℕ) → Type 0
EachFound B m t found = (b : ℕ) → b < layers m → LayerFound B m t b found
