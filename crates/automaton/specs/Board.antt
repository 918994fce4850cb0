-- The board that the games are played on: an automaton without its start, of which no game speaks.
use Rattle.std.specs.Prelude.{◌≡◌, ◌⊎◌, Bool, false, ◌&&◌, ◌||◌, not, List, ℕ, zero, suc, ◌+◌, ◌*◌, ◌%◌, ◌≤◌, ◌<◌, eqb, ltb, length, get_or}
use Rattle.automaton.specs.Limits.{most_states, most_letters}
use Rattle.automaton.specs.declared.Automaton.{Automaton}
use Rattle.automaton.specs.declared.Move.{Move}

-- "States 0 to n-1 .. Letters 0 to k-1 .. One accept mark per state, 0 or 1";
-- "Moves: bytes, three a move (from, letter, to) .. No moves at all is allowed."
pub record Board : Type 0 where
  pub n : ℕ
  pub k : ℕ
  pub marks : List ℕ
  pub moves : List ℕ

-- the board of an automaton's record with the marks and the moves lent beside it
abbrev pub board_of : Automaton → (marks moves : List ℕ) → Board
board_of a marks moves = record { n = a.states; k = a.letters; marks = marks; moves = moves }

-- state q has mark 1
abbrev pub accepts : Board → ℕ → Bool
accepts B q = eqb (get_or B.marks q 0) 1

-- the three numbers of move i
abbrev pub from : (moves : List ℕ) → ℕ → ℕ
from ms i = get_or ms (i * 3) 0

abbrev pub letter : (moves : List ℕ) → ℕ → ℕ
letter ms i = get_or ms (i * 3 + 1) 0

abbrev pub to : (moves : List ℕ) → ℕ → ℕ
to ms i = get_or ms (i * 3 + 2) 0

-- move i
abbrev pub move_at : (moves : List ℕ) → ℕ → Move
move_at ms i = record { from = from ms i; letter = letter ms i; to = to ms i }

-- "a move's state is not below n or its letter not below k"
abbrev pub outside : (n k : ℕ) → (moves : List ℕ) → ℕ → Bool
outside n k ms i = not (ltb (from ms i) n && ltb (letter ms i) k && ltb (to ms i) n)

-- "strictly ascending by from, then letter, then to": as a test, and as a fact
abbrev pub above : (x y z x' y' z' : ℕ) → Bool
above x y z x' y' z' = ltb x x' || (eqb x x' && (ltb y y' || (eqb y y' && ltb z z')))

abbrev pub Above : (x y z x' y' z' : ℕ) → Type 0
Above x y z x' y' z' = (x < x') ⊎ ((x ≡ x') × ((y < y') ⊎ ((y ≡ y') × (z < z'))))

-- "a move not above the one before"
abbrev pub unsorted : (moves : List ℕ) → ℕ → Bool
unsorted ms zero = false
unsorted ms (suc i) = not (above (from ms i) (letter ms i) (to ms i) (from ms (suc i)) (letter ms (suc i)) (to ms (suc i)))

-- What a checked automaton gives its callers: limits, lengths, and moves inside the board, each above the one before.
pub record Formed (B : Board) : Type 0 where
  pub states : 0 < B.n
  pub few : B.n ≤ most_states
  pub letters : 0 < B.k
  pub few_letters : B.k ≤ most_letters
  pub marked : length B.marks ≡ B.n
  pub binary : (q : ℕ) → q < B.n → get_or B.marks q 0 ≤ 1
  pub whole : length B.moves % 3 ≡ 0
  pub inside : (i : ℕ) → i * 3 + 2 < length B.moves → (from B.moves i < B.n) × (letter B.moves i < B.k) × (to B.moves i < B.n)
  pub order : (i : ℕ) → i * 3 + 5 < length B.moves
      → Above (from B.moves i) (letter B.moves i) (to B.moves i) (from B.moves (suc i)) (letter B.moves (suc i)) (to B.moves (suc i))
