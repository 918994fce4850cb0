-- Texts worked out: what each says, or the number and the place of its refusal.
use Rattle.std.specs.Prelude.{◌≡◌, List, [], ◌∷◌, ℕ, replicate}
use Prim.Native.String.{String}
use Rattle.automaton.specs.declared.Automaton.{Automaton}
use Rattle.automaton.specs.Answer.{Answer, none, accepted, unless}
use Rattle.fields.specs.Bytes.{bytes_of}
use Rattle.lines.specs.Lines.{lines_of}
use Rattle.text.specs.Text.{head, mode, accepts, moves, text_fault}

-- the automaton, its mode, the states that accept lines name, and the numbers of the moves
pub record Said : Type 0 where
  pub automaton : Automaton
  pub mode : ℕ
  pub accepts : List ℕ
  pub moves : List ℕ

abbrev pub said : String → Said
said text =
    let ls = lines_of (bytes_of text) in
    record { automaton = head ls; mode = mode ls; accepts = accepts ls; moves = moves ls }

-- what `read` answers where there is room
abbrev pub answered : (bytes : List ℕ) → Answer
answered bytes = unless (text_fault bytes) accepted

abbrev pub refusal : (number place : ℕ) → Answer
refusal number place = record { number = number; place = place; values = 0 ∷ 0 ∷ 0 ∷ [] }

-- a text that is read, with what it says; one that is refused, and one of that many zero bytes, with number and place
pub data Case : Type 0 where
  read : (text : String) → (states letters start mode : ℕ) → (accepts moves : List ℕ) → Case
  refused : (text : String) → (number place : ℕ) → Case
  zeros : (count number place : ℕ) → Case

abbrev pub Holds : Case → Type 0
Holds (read text n k start m named steps) =
    (text_fault (bytes_of text) ≡ none) ×
    (said text ≡ record { automaton = record { states = n; letters = k; start = start }; mode = m; accepts = named; moves = steps })
Holds (refused text number place) = answered (bytes_of text) ≡ refusal number place
Holds (zeros count number place) = answered (replicate count 0) ≡ refusal number place

abbrev pub AllHold : List Case → Type 0
AllHold [] = Unit {0}
AllHold (c ∷ cs) = Holds c × AllHold cs

abbrev pub cases : List Case
cases =
    -- the document's example
    read "automaton\t2\t1\t0\nmode\t2\naccept\t1\nmove\t0\t0\t1\nmove\t1\t0\t0\n" 2 1 0 2 (1 ∷ []) (0 ∷ 0 ∷ 1 ∷ 1 ∷ 0 ∷ 0 ∷ [])
    -- "`mode`, m (missing means 1)"; neither accept nor move lines need be there
    ∷ read "automaton\t1\t1\t0\n" 1 1 0 1 [] []
    ∷ read "automaton\t2\t1\t1\naccept\t0\naccept\t1\n" 2 1 1 1 (0 ∷ 1 ∷ []) []
    -- the program's limits themselves are met
    ∷ read "automaton\t16\t8\t15\nmode\t0\nmove\t15\t7\t15\n" 16 8 15 0 [] (15 ∷ 7 ∷ 15 ∷ [])
    -- "22 input too long", before 20; "32,768 bytes" are not
    ∷ zeros 32769 22 0
    ∷ zeros 32768 20 1
    -- 20: "empty input (.. 1 if empty)"
    ∷ refused "" 20 1
    ∷ refused "\n" 20 1
    -- "Lines end in a newline"
    ∷ refused "automaton\t1\t1\t0" 20 1
    ∷ refused "automaton\t1\t1\t0\nmode\t1" 20 2
    ∷ refused "automaton\t1\t1\t0\r\n" 20 1
    -- "fields are parted by tabs"
    ∷ refused "automaton 1 1 0\n" 20 1
    ∷ refused "automaton\t1\t1\t0\t\n" 20 1
    ∷ refused "automaton\t1\t1\n" 20 1
    ∷ refused "automaton\t1\t1\t0\nmode\t1\t1\t1\n" 20 2
    -- "numbers are decimal, no leading zeros, those read 0 to 65535"
    ∷ refused "automaton\t1\t1\t+0\n" 20 1
    ∷ refused "automaton\t01\t1\t0\n" 20 1
    ∷ refused "automaton\t1\t1\t65536\n" 20 1
    ∷ refused "automaton\t1\t1\t65535\n" 4 0
    -- "First `automaton` ..; then optionally `mode` ..; then `accept` ..; then `move`"
    ∷ refused "mode\t1\nautomaton\t1\t1\t0\n" 20 1
    ∷ refused "automaton\t1\t1\t0\nautomaton\t1\t1\t0\n" 20 2
    ∷ refused "automaton\t1\t1\t0\nmode\t1\nmode\t1\n" 20 3
    ∷ refused "automaton\t1\t1\t0\naccept\t0\nmode\t1\n" 20 3
    ∷ refused "automaton\t1\t1\t0\nmove\t0\t0\t0\naccept\t0\n" 20 3
    -- "20 ..; then 1, 2; then 21 ..; then 3 ..; then 4 and 6 to 8": a 20 behind a 1
    ∷ refused "automaton\t0\t1\t0\n\n" 20 2
    ∷ refused "automaton\t0\t1\t0\n" 1 0
    ∷ refused "automaton\t65\t1\t0\n" 1 0
    ∷ refused "automaton\t1\t0\t0\n" 2 0
    ∷ refused "automaton\t1\t17\t0\n" 2 0
    -- a 2 before a 21 and before a 3
    ∷ refused "automaton\t17\t17\t0\n" 2 0
    ∷ refused "automaton\t1\t17\t0\naccept\t1\n" 2 0
    ∷ refused "automaton\t17\t1\t0\n" 21 0
    ∷ refused "automaton\t1\t9\t0\naccept\t1\n" 21 0
    -- 3: "an accept line not ascending or not below n; place: its number among accept lines from 0"
    ∷ refused "automaton\t2\t1\t0\naccept\t257\n" 3 0
    ∷ refused "automaton\t2\t1\t0\nmode\t1\naccept\t0\naccept\t0\n" 3 1
    ∷ refused "automaton\t2\t1\t2\naccept\t1\naccept\t0\n" 3 1
    ∷ refused "automaton\t2\t1\t256\nmove\t2\t0\t0\n" 4 0
    -- a 6 behind a 7, and each place among the moves
    ∷ refused "automaton\t1\t1\t0\nmove\t0\t0\t0\nmove\t0\t0\t0\nmove\t0\t0\t256\n" 6 2
    ∷ refused "automaton\t1\t1\t0\nmode\t4\nmove\t0\t0\t0\nmove\t0\t0\t0\n" 7 1
    ∷ refused "automaton\t1\t1\t0\nmode\t256\n" 8 0
    ∷ []
