-- "Small automata worked out": the cases marked p, as one list. After it, cases that show slips, and C merged in each mode.
use Rattle.std.specs.Prelude.{◌≡◌, List, [], ◌∷◌, ℕ, ◌/◌, length, take}
use Rattle.games.specs.Game.{at}
use Rattle.games.specs.Lift.{cleared, lifts}
use Rattle.automaton.specs.declared.Mode.{Mode}
use Rattle.automaton.specs.declared.Mode.TheVariants.{Ordinary, Direct, Delayed, Fair}
use Rattle.automaton.specs.declared.Refusal.TheVariants.{SpoilerPosition}
use Rattle.automaton.specs.Answer.{Answer, valued, refused}
use Rattle.automaton.specs.Board.{Board, accepts, to}
use Rattle.automaton.specs.First.{some}
use Rattle.simulation.specs.Position.{pairs}
use Rattle.simulation.specs.Rules.{bit, ceiling, game}
use Rattle.simulation.specs.Answers.{settled, relation, reply_at}
use Rattle.simulation.specs.Quotient.{class_of, class_count, class_bytes, mark_bytes, move_count, move_bytes, quotient_of}

-- "One letter each. A: 0 to 1, 1 to 0, accept 1."
abbrev pub board_a : Board
board_a = record { n = 2; k = 1; marks = 0 ∷ 1 ∷ []; moves = 0 ∷ 0 ∷ 1 ∷ 1 ∷ 0 ∷ 0 ∷ [] }

-- "B: loops on 0 and 1, accept 0."
abbrev pub board_b : Board
board_b = record { n = 2; k = 1; marks = 1 ∷ 0 ∷ []; moves = 0 ∷ 0 ∷ 0 ∷ 1 ∷ 0 ∷ 1 ∷ [] }

-- "C: 0 to 1, loop on 1, accept 0."
abbrev pub board_c : Board
board_c = record { n = 2; k = 1; marks = 1 ∷ 0 ∷ []; moves = 0 ∷ 0 ∷ 1 ∷ 1 ∷ 0 ∷ 1 ∷ [] }

-- "E: loop on 1 only, accept 0."
abbrev pub board_e : Board
board_e = record { n = 2; k = 1; marks = 1 ∷ 0 ∷ []; moves = 1 ∷ 0 ∷ 1 ∷ [] }

-- "one state, no moves", with the mark x
abbrev pub alone : (x : ℕ) → Board
alone x = record { n = 1; k = 1; marks = x ∷ []; moves = [] }

abbrev pub table_of : Board → Mode → List ℕ
table_of B m = (settled B m).table

abbrev pub relation_of : Board → Mode → List ℕ
relation_of B m = relation B m (table_of B m)

-- what the definitions give, and what the document states
pub data Case : Type 0 where
  numbers : (given stated : List ℕ) → Case
  number : (given stated : ℕ) → Case
  answers : (given stated : Answer) → Case

abbrev pub AllHold : List Case → Type 0
AllHold [] = Unit {0}
AllHold (numbers x y ∷ cs) = (x ≡ y) × AllHold cs
AllHold (number x y ∷ cs) = (x ≡ y) × AllHold cs
AllHold (answers x y ∷ cs) = (x ≡ y) × AllHold cs

abbrev pub cases : List Case
cases =
    -- "p: A, mode 2, settled: 0 0 0 0 1 0 1 0, 0 0 0 0 0 1 0 1."
    numbers (table_of board_a Delayed) (0 ∷ 0 ∷ 0 ∷ 0 ∷ 1 ∷ 0 ∷ 1 ∷ 0 ∷ 0 ∷ 0 ∷ 0 ∷ 0 ∷ 0 ∷ 1 ∷ 0 ∷ 1 ∷ [])
    -- "p: B, mode 2, settled, T = 3: 0 3 0 0 0 3 0 3, twice."
    ∷ number (ceiling board_b Delayed) 3
    ∷ numbers (table_of board_b Delayed) (0 ∷ 3 ∷ 0 ∷ 0 ∷ 0 ∷ 3 ∷ 0 ∷ 3 ∷ 0 ∷ 3 ∷ 0 ∷ 0 ∷ 0 ∷ 3 ∷ 0 ∷ 3 ∷ [])
    -- "p: C, mode 2: relation 1 0 1 1. p: C, mode 3: 1 1 1 1, Spoiler's entries 0 1 0 0."
    ∷ numbers (relation_of board_c Delayed) (1 ∷ 0 ∷ 1 ∷ 1 ∷ [])
    ∷ numbers (relation_of board_c Fair) (1 ∷ 1 ∷ 1 ∷ 1 ∷ [])
    ∷ numbers (take (pairs board_c Fair) (table_of board_c Fair)) (0 ∷ 1 ∷ 0 ∷ 0 ∷ [])
    -- "p: B, mode 3: 1 0 1 1. p: A, mode 1: 1 0 0 1."
    ∷ numbers (relation_of board_b Fair) (1 ∷ 0 ∷ 1 ∷ 1 ∷ [])
    ∷ numbers (relation_of board_a Direct) (1 ∷ 0 ∷ 0 ∷ 1 ∷ [])
    -- "p: E, mode 2: 1 1 0 1. p: E, mode 1: 1 0 0 1."
    ∷ numbers (relation_of board_e Delayed) (1 ∷ 1 ∷ 0 ∷ 1 ∷ [])
    ∷ numbers (relation_of board_e Direct) (1 ∷ 0 ∷ 0 ∷ 1 ∷ [])
    -- "p: one state, no moves, mode 2: not accepting 0 1 2 2; accepting 0 0 1 1."
    ∷ numbers (table_of (alone 0) Delayed) (0 ∷ 1 ∷ 2 ∷ 2 ∷ [])
    ∷ numbers (table_of (alone 1) Delayed) (0 ∷ 0 ∷ 1 ∷ 1 ∷ [])
    -- "p: A, mode 2, settled: reply at 15 is 0, at 8 is 1; at 7, refusal 13."
    ∷ answers (reply_at board_a Delayed (table_of board_a Delayed) 15) (valued 0)
    ∷ answers (reply_at board_a Delayed (table_of board_a Delayed) 8) (valued 1)
    ∷ answers (reply_at board_a Delayed (table_of board_a Delayed) 7) (refused SpoilerPosition)
    -- "p: A, mode 2, quotient: classes 0 0; marks 1 255; moves 0 0 0 255 255 255; one class, one move, start 0."
    ∷ numbers (class_bytes board_a Delayed (table_of board_a Delayed)) (0 ∷ 0 ∷ [])
    ∷ numbers (mark_bytes board_a Delayed (table_of board_a Delayed)) (1 ∷ 255 ∷ [])
    ∷ numbers (move_bytes board_a Delayed (table_of board_a Delayed)) (0 ∷ 0 ∷ 0 ∷ 255 ∷ 255 ∷ 255 ∷ [])
    ∷ number (class_count board_a Delayed (table_of board_a Delayed)) 1
    ∷ number (move_count board_a Delayed (table_of board_a Delayed)) 1
    ∷ number (class_of board_a Delayed (table_of board_a Delayed) 0) 0
    -- the program's example on A: "raised 4"
    ∷ number (settled board_a Delayed).raised 4
    ∷ []

-- ---- "Slips seen in such tools": cases that come out differently with the slip

-- 0 loops, 1 to 2, 2 to 0, accept 2. With Red on 1 and Blue on 2 Red comes to accept as Blue, who did before, leaves for good.
abbrev pub board_early : Board
board_early = record { n = 3; k = 1; marks = 0 ∷ 0 ∷ 1 ∷ []; moves = 0 ∷ 0 ∷ 0 ∷ 1 ∷ 0 ∷ 2 ∷ 2 ∷ 0 ∷ 0 ∷ [] }

-- 0 to 1, 1 to 2, accept 1 and 2. With Red on 0 and Blue on 1 both come to accept in the same round, and Blue is stuck in the next;
-- were b left at 1, the position in between would pass for idle and the pair for won.
abbrev pub board_met : Board
board_met = record { n = 3; k = 1; marks = 0 ∷ 1 ∷ 1 ∷ []; moves = 0 ∷ 0 ∷ 1 ∷ 1 ∷ 0 ∷ 2 ∷ [] }

-- two letters: 0 loops by the one, 1 by the other
abbrev pub board_two : Board
board_two = record { n = 2; k = 2; marks = 0 ∷ 0 ∷ []; moves = 0 ∷ 0 ∷ 0 ∷ 1 ∷ 1 ∷ 1 ∷ [] }

-- loop on 0 and 0 to 1, accept 1: at position 14, where an obligation is pending, Blue may stay on 0, entry 1, or go to 1, entry 0
abbrev pub board_choice : Board
board_choice = record { n = 2; k = 1; marks = 0 ∷ 1 ∷ []; moves = 0 ∷ 0 ∷ 0 ∷ 0 ∷ 0 ∷ 1 ∷ [] }

-- three states without moves, accept 1: in mode 1 the states 0 and 2 are equal, and 1 is not
abbrev pub board_apart : Board
board_apart = record { n = 3; k = 1; marks = 0 ∷ 1 ∷ 0 ∷ []; moves = [] }

abbrev pub slips : List Case
slips =
    -- "Clearing b before Blue moves"
    numbers (relation_of board_early Delayed) (1 ∷ 1 ∷ 1 ∷ 0 ∷ 1 ∷ 0 ∷ 0 ∷ 1 ∷ 1 ∷ [])
    -- "Red accepts and Blue answers in the same round: met."
    ∷ numbers (relation_of board_met Delayed) (1 ∷ 0 ∷ 0 ∷ 1 ∷ 1 ∷ 0 ∷ 1 ∷ 1 ∷ 1 ∷ [])
    -- "or when Red leaves F"
    ∷ numbers (relation_of board_c Delayed) (1 ∷ 0 ∷ 1 ∷ 1 ∷ [])
    -- "Giving a Duplicator without moves the entry 0."
    ∷ numbers (relation_of board_e Ordinary) (1 ∷ 1 ∷ 0 ∷ 1 ∷ [])
    -- "Ending after one sweep that raised little."
    ∷ numbers (relation_of board_b Fair) (1 ∷ 0 ∷ 1 ∷ 1 ∷ [])
    -- a reply by another letter
    ∷ numbers (relation_of board_two Ordinary) (1 ∷ 0 ∷ 0 ∷ 1 ∷ [])
    -- the order of work shows in the table before rest: "lifts 15 then 6 leave entry 15 at 0; 6 then 15 make it 1"
    ∷ number (at (lifts (game board_a Delayed) (cleared (game board_a Delayed)) (15 ∷ 6 ∷ [])) 15) 0
    ∷ number (at (lifts (game board_a Delayed) (cleared (game board_a Delayed)) (6 ∷ 15 ∷ [])) 15) 1
    -- the least entry, and not any below T
    ∷ answers (reply_at board_choice Delayed (table_of board_choice Delayed) 14) (valued 1)
    -- classes in the order of their least members, and not of their greatest
    ∷ numbers (class_bytes board_apart Direct (table_of board_apart Direct)) (0 ∷ 1 ∷ 0 ∷ [])
    ∷ []

-- ---- Why quotients are formed in modes 1 and 2 only (001, section 5)

-- C merged by its table of a mode
abbrev pub merged_c : Mode → Board
merged_c m = quotient_of board_c m (table_of board_c m)

-- 1 if some move leads to an accepting state
abbrev pub to_accepting : Board → ℕ
to_accepting B = bit (some (λ i. accepts B (to B.moves i)) (length B.moves / 3))

abbrev pub merged_cases : List Case
merged_cases =
    -- No move of C leads to an accepting state, so "C accepts none".
    number (to_accepting board_c) 0
    -- mode 3: "one accepting class with a loop, which accepts a word"
    ∷ number (merged_c Fair).n 1
    ∷ numbers (merged_c Fair).marks (1 ∷ [])
    ∷ numbers (merged_c Fair).moves (0 ∷ 0 ∷ 0 ∷ [])
    -- mode 0: the same
    ∷ number (merged_c Ordinary).n 1
    ∷ numbers (merged_c Ordinary).marks (1 ∷ [])
    ∷ numbers (merged_c Ordinary).moves (0 ∷ 0 ∷ 0 ∷ [])
    -- modes 1 and 2: as it was
    ∷ number (merged_c Direct).n 2
    ∷ numbers (merged_c Direct).marks board_c.marks
    ∷ numbers (merged_c Direct).moves board_c.moves
    ∷ number (merged_c Delayed).n 2
    ∷ numbers (merged_c Delayed).marks board_c.marks
    ∷ numbers (merged_c Delayed).moves board_c.moves
    ∷ []
