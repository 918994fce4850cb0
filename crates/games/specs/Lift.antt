-- Lifting, rest, and the least table at rest.
use Rattle.std.specs.Prelude.{◌≡◌, ℕ, ◌+◌, ◌*◌, ◌-◌, ◌≤◌, ◌<◌, min, max, length, set, replicate}
use mathlib.Core.List.{List, [], ◌∷◌, Memᴰ}
use Rattle.games.specs.Game.{Game, asked, at}

-- "Clear: fill the table with 0."
abbrev pub cleared : Game → List ℕ
cleared g = replicate g.P 0

-- "A lift writes the greater of the old entry and the value asked for." A position out of range has no entry, and nothing is written.
unfoldable pub lift : Game → (table : List ℕ) → ℕ → List ℕ
lift g t v = set t v (max (at t v) (asked g (at t) v))

-- lifts of several positions, in the order of the list
abbrev pub lifts : Game → (table vs : List ℕ) → List ℕ
lifts g t [] = t
lifts g t (v ∷ vs) = lifts g (lift g t v) vs

-- "1 if the entry rose, else 0"
abbrev pub rise : Game → (table : List ℕ) → ℕ → ℕ
rise g t v = min 1 (at (lift g t v) v - at t v)

-- how many of several lifts raised an entry
abbrev pub raises : Game → (table vs : List ℕ) → ℕ
raises g t [] = 0
raises g t (v ∷ vs) = rise g t v + raises g (lift g t v) vs

-- "every position at least once"
abbrev pub Covers : Game → (vs : List ℕ) → Type 0
Covers g vs = (v : ℕ) → v < g.P → Memᴰ v vs

-- "positions times the largest entry allowed"
abbrev pub bound : Game → ℕ
bound g = g.P * g.T

-- "A position is at rest when a lift would not raise it": here, at every position, for any entries.
abbrev pub Rest : Game → (entry : ℕ → ℕ) → Type 0
Rest g f = (v : ℕ) → v < g.P → asked g f v ≤ f v

-- "none above T": of its entries
abbrev pub Capped : Game → (table : List ℕ) → Type 0
Capped g t = (v : ℕ) → at t v ≤ g.T

-- "a table is at rest when it has P entries, none above T, and all its positions are at rest"
pub record AtRest (g : Game) (t : List ℕ) : Type 0 where
  pub entries : length t ≡ g.P
  pub capped : Capped g t
  pub rest : Rest g (at t)

-- "The least table at rest has at each position the least entry that any table at rest has there."
pub record Least (g : Game) (t : List ℕ) : Type 0 where
  pub at_rest : AtRest g t
  pub least : (u : List ℕ) → AtRest g u → (v : ℕ) → at t v ≤ at u v
