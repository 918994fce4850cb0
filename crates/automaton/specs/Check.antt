-- "Check an automaton": refusals 1 to 7, and 8 beside them, in the words of document 01's table.
use Rattle.std.specs.Prelude.{Bool, ◌||◌, not, cond, List, [], ◌∷◌, ℕ, ◌/◌, ◌%◌, eqb, ltb, leb, length, get_or}
use Rattle.automaton.specs.Answer.{Answer, accepted, Fault, fault, fails, fails_at, first_fault, unless}
use Rattle.automaton.specs.Board.{Board, outside, unsorted}
use Rattle.automaton.specs.Limits.{most_states, most_letters, name_of, is_unknown}
use Rattle.automaton.specs.declared.Refusal.TheVariants.{States, Letters, Marks, Start, Bytes, Outside, Unsorted, ModeNumber}

-- "a mark above 1"
abbrev pub high : List ℕ → ℕ → Bool
high marks i = ltb 1 (get_or marks i 0)

-- 1: "n not 1..64"
abbrev pub states_fault : (n : ℕ) → Fault
states_fault n = fails (ltb n 1 || ltb most_states n) States

-- 2: "k not 1..16"
abbrev pub letters_fault : (k : ℕ) → Fault
letters_fault k = fails (ltb k 1 || ltb most_letters k) Letters

-- 3: "not n marks; else a mark above 1" at "n; else its index"
abbrev pub marks_fault : Board → Fault
marks_fault B = cond (eqb (length B.marks) B.n) (fails_at Marks (high B.marks) B.n) (fault (Marks B.n))

-- 8: "mode above 3"
abbrev pub mode_fault : (mode : ℕ) → Fault
mode_fault mode = fails (is_unknown (name_of mode)) ModeNumber

-- 1 to 7
abbrev pub faults : Board → (start : ℕ) → List Fault
faults B start =
    states_fault B.n
    ∷ letters_fault B.k
    ∷ marks_fault B
    -- 4: "start not below n"
    ∷ fails (leb B.n start) Start
    -- 5: "move bytes not a multiple of 3"
    ∷ fails (not (eqb (length B.moves % 3) 0)) Bytes
    -- 6: "a move's state is not below n or its letter not below k" at "first such move"
    ∷ fails_at Outside (outside B.n B.k B.moves) (length B.moves / 3)
    -- 7: "a move not above the one before" at "first such move"
    ∷ fails_at Unsorted (unsorted B.moves) (length B.moves / 3)
    ∷ []

-- what is at fault with an automaton, if anything is
abbrev pub automaton_fault : Board → (start : ℕ) → Fault
automaton_fault B start = first_fault (faults B start)

-- what `limits` answers, for every n and k
unfoldable pub limited : (n k : ℕ) → Answer
limited n k = unless (first_fault (states_fault n ∷ letters_fault k ∷ [])) accepted

-- what `check` answers, for every input
unfoldable pub checked : Board → (start : ℕ) → Answer
checked B start = unless (automaton_fault B start) accepted
