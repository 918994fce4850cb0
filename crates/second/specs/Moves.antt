-- Moves whose states and letters are within the limits.
use Rattle.std.specs.Prelude.{ℕ, ◌+◌, ◌*◌, ◌<◌, length, List}
use Rattle.automaton.specs.Board.{from, letter, to}
use Rattle.automaton.specs.Limits.{most_states, most_letters}

-- every move's states and letter fit the rows that `successors` fills
abbrev pub Within : List ℕ → Type 0
Within moves = (i : ℕ) → i * 3 + 2 < length moves → (from moves i < most_states) × (letter moves i < most_letters) × (to moves i < most_states)
