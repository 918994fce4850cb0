-- "Quotient", as functions of a table: the classes, their marks and moves, and the bytes written.
use Rattle.std.specs.Prelude.{◌≡◌, Bool, ◌&&◌, cond, List, [], ◌∷◌, ◌++◌, map, ℕ, zero, suc, ◌+◌, ◌*◌, ◌-◌, ◌/◌, ◌%◌, eqb, length, replicate}
use Rattle.games.specs.Play.{count}
use Rattle.games.specs.Settle.{ascending}
use Rattle.automaton.specs.declared.Mode.{Mode}
use Rattle.automaton.specs.Board.{Board, accepts, from, letter, to}
use Rattle.automaton.specs.First.{first, some}
use Rattle.simulation.specs.Moves.{Moves}
use Rattle.simulation.specs.Rules.{bit}
use Rattle.simulation.specs.Answers.{below}

-- "Unused bytes are 255": the bytes xs, and 255 up to a length
abbrev pub padded : (bytes : ℕ) → List ℕ → List ℕ
padded bytes xs = xs ++ replicate (bytes - length xs) 255

-- what f makes of 0, of 1 and on, below c, one after another
abbrev pub in_turn : (ℕ → List ℕ) → (c : ℕ) → List ℕ
in_turn f zero = []
in_turn f (suc c) = in_turn f c ++ f c

-- ---- "Classes are numbered 0, 1 and on in the order of their least members": by a test of which numbers are equal

module _ (equal : ℕ → ℕ → Bool) where
  -- the least number that equals q, which is q itself if none below it does
  abbrev pub chief_by : ℕ → ℕ
  chief_by q = first (equal q) 0 q

  -- 1 for the least member of a class
  abbrev pub leads : ℕ → ℕ
  leads q = bit (eqb (chief_by q) q)

  -- the number of a class is how many classes have their least members below its own
  abbrev pub class_by : ℕ → ℕ
  class_by q = count leads (chief_by q)

-- ---- marks and moves, by which class each state has

-- "1 if some member accepts": of n states, for class c
abbrev pub mark_by : (n : ℕ) → (class : ℕ → ℕ) → (accepting : ℕ → Bool) → (c : ℕ) → ℕ
mark_by n class accepting c = bit (some (λ q. eqb (class q) c && accepting q) n)

-- A triple (c,a,d) has the number (c·k + a)·n + d, so that numbers ascend as the moves are to: by c, then a, then d.
abbrev pub triple_by : (n k x : ℕ) → List ℕ
triple_by n k x = x / n / k ∷ x / n % k ∷ x % n ∷ []

-- the number of move i "with each state replaced by its class"
abbrev pub image_by : (n k : ℕ) → (class : ℕ → ℕ) → (moves : List ℕ) → (i : ℕ) → ℕ
image_by n k class ms i = (class (from ms i) * k + letter ms i) * n + class (to ms i)

-- ---- by a table

module _ (B : Board) (m : Mode) (t : List ℕ) where
  -- "Two states are equal if each is related to the other (001, definition 12)."
  abbrev pub equal : (q r : ℕ) → Bool
  equal q r = below B m t q r && below B m t r q

  -- the chief of a state, the number of its class, and how many classes there are
  abbrev pub chief : ℕ → ℕ
  chief = chief_by equal

  abbrev pub class_of : ℕ → ℕ
  class_of = class_by equal

  abbrev pub class_count : ℕ
  class_count = count (leads equal) B.n

  -- "the class of each state (n bytes)"
  abbrev pub class_bytes : List ℕ
  class_bytes = map class_of (ascending 0 B.n)

  -- "accept marks (n bytes, one a class, 1 if some member accepts)"
  abbrev pub mark_of : (c : ℕ) → ℕ
  mark_of = mark_by B.n class_of (accepts B)

  -- the marks of the classes, and these with the unused bytes
  abbrev pub class_marks : List ℕ
  class_marks = map mark_of (ascending 0 class_count)

  abbrev pub mark_bytes : List ℕ
  mark_bytes = padded B.n class_marks

  -- the number of the triple that move i becomes
  abbrev pub image_of : (i : ℕ) → ℕ
  image_of = image_by B.n B.k class_of B.moves

  -- does some move become the triple with this number?
  abbrev pub reached : (x : ℕ) → Bool
  reached x = some (λ i. eqb (image_of i) x) (length B.moves / 3)

  -- "the moves with each state replaced by its class, sorted, each once (same length as the input's moves)"
  abbrev pub class_moves : List ℕ
  class_moves = in_turn (λ x. cond (reached x) (triple_by B.n B.k x) []) (B.n * B.k * B.n)

  -- how many moves that are, and these with the unused bytes
  abbrev pub move_count : ℕ
  move_count = length class_moves / 3

  abbrev pub move_bytes : List ℕ
  move_bytes = padded (length B.moves) class_moves

  -- the quotient as a board: what is written, without the unused bytes
  abbrev pub quotient_of : Board
  quotient_of = record { n = class_count; k = B.k; marks = class_marks; moves = class_moves }

  -- (c,a,d) is a move with each state replaced by its class
  abbrev pub Image : (c a d : ℕ) → Type 0
  Image c a d = (q : ℕ) × (r : ℕ) × Moves B q a r × (class_of q ≡ c) × (class_of r ≡ d)
