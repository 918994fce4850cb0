-- What a search of a table's entries looks for: an entry above T, and a position not at rest. And what a lift tells.
use Rattle.std.specs.Prelude.{Bool, true, false, List, ℕ, ltb}
use Rattle.games.specs.Game.{Game, asked, at}

-- "an entry above T"
abbrev pub above : (T : ℕ) → (table : List ℕ) → ℕ → Bool
above T t v = ltb T (at t v)

-- "A position is at rest when a lift would not raise it": one that is not
abbrev pub restless : Game → (table : List ℕ) → ℕ → Bool
restless g t v = ltb (at t v) (asked g (at t) v)

-- "value 1 if the entry rose, else 0"
abbrev pub raised : (rose : Bool) → ℕ
raised true = 1
raised false = 0
