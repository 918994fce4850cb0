-- The moves by their keys, and a list of the places where each key begins.
-- Functions below the calls promise it to each other; no public promise cites it.
use Rattle.std.specs.Prelude.{ℕ, suc, ◌+◌, ◌*◌, ◌≤◌, ◌<◌, List, length, get_or}
use Rattle.automaton.specs.Board.{from, letter}

-- from · k + letter: the moves of one state, and of one state and letter, have keys in a row
abbrev pub key : (k : ℕ) → (moves : List ℕ) → ℕ → ℕ
key k ms i = from ms i * k + letter ms i

-- the keys do not fall
abbrev pub Ascending : (k : ℕ) → (moves : List ℕ) → Type 0
Ascending k ms = (i : ℕ) → suc i * 3 + 2 < length ms → key k ms i ≤ key k ms (suc i)

-- entry x is the first move with a key of x or more, and the number of moves if there is none
pub record Indexed (n k : ℕ) (moves begins : List ℕ) : Type 0 where
  pub keys : n * k < length begins
  pub inside : (x : ℕ) → x ≤ n * k → get_or begins x 0 * 3 ≤ length moves
  pub under : (x : ℕ) → x ≤ n * k → (i : ℕ) → i < get_or begins x 0 → key k moves i < x
  pub over : (x : ℕ) → x ≤ n * k → (i : ℕ) → get_or begins x 0 ≤ i → i * 3 + 2 < length moves → x ≤ key k moves i
