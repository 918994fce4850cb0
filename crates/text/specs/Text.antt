-- What the lines of a text say together: the automaton, its mode, and its refusals in the order of the program.
use Rattle.std.specs.Prelude.{◌≡◌, ◌≢◌, Bool, false, ◌||◌, List, [], ◌∷◌, ◌++◌, ℕ, zero, suc, ◌/◌, ◌≤◌, ◌<◌, ltb, leb, length, get_or, set, replicate, Option, Some, None}
use Rattle.automaton.specs.declared.Automaton.{Automaton}
use Rattle.automaton.specs.declared.Refusal.TheVariants.{Marks, Start, Outside, Unsorted, ProgramLimits, TooLong}
use Rattle.automaton.specs.Answer.{Fault, fails, fails_at, first_fault}
use Rattle.automaton.specs.Board.{Board, Formed, board_of, outside, unsorted}
use Rattle.automaton.specs.Check.{states_fault, letters_fault, mode_fault}
use Rattle.automaton.specs.Limits.{name_of}
use Rattle.lines.specs.declared.line.Line.{Line}
use Rattle.lines.specs.declared.line.Line.TheVariants as line
use Rattle.lines.specs.Lines.{lines_of}
use Rattle.text.specs.Order.{misplaced, form_fault}

-- ---- the numbers

-- what no line has said yet
abbrev pub unsaid : Automaton
unsaid = record { states = 0; letters = 0; start = 0 }

-- "First `automaton`, n, k, start": in a text of right form the first line says so
abbrev pub head_in : Option Line → Automaton
head_in (Some (line.Automaton n k s)) = record { states = n; letters = k; start = s }
head_in (Some (line.Mode m)) = unsaid
head_in (Some (line.Accept q)) = unsaid
head_in (Some (line.Move p a q)) = unsaid
head_in None = unsaid

abbrev pub head : List (Option Line) → Automaton
head ls = head_in (get_or ls 0 None)

-- "then optionally `mode`, m (missing means 1)": what a line makes of the mode before it
abbrev pub mode_in : (mode : ℕ) → Option Line → ℕ
mode_in m (Some (line.Automaton n k s)) = m
mode_in m (Some (line.Mode m')) = m'
mode_in m (Some (line.Accept q)) = m
mode_in m (Some (line.Move p a q)) = m
mode_in m None = m

abbrev pub mode_after : (mode : ℕ) → List (Option Line) → ℕ
mode_after m [] = m
mode_after m (l ∷ ls) = mode_after (mode_in m l) ls

abbrev pub mode : List (Option Line) → ℕ
mode = mode_after 1

-- "then `accept`, q": the state that a line names, and those that all do
abbrev pub accepts_in : Option Line → List ℕ
accepts_in (Some (line.Automaton n k s)) = []
accepts_in (Some (line.Mode m)) = []
accepts_in (Some (line.Accept q)) = q ∷ []
accepts_in (Some (line.Move p a q)) = []
accepts_in None = []

abbrev pub accepts : List (Option Line) → List ℕ
accepts [] = []
accepts (l ∷ ls) = accepts_in l ++ accepts ls

-- "then `move`, from, letter, to": the three numbers of a move, and those of all moves
abbrev pub moves_in : Option Line → List ℕ
moves_in (Some (line.Automaton n k s)) = []
moves_in (Some (line.Mode m)) = []
moves_in (Some (line.Accept q)) = []
moves_in (Some (line.Move p a q)) = p ∷ a ∷ q ∷ []
moves_in None = []

abbrev pub moves : List (Option Line) → List ℕ
moves [] = []
moves (l ∷ ls) = moves_in l ++ moves ls

-- a mark of 1 for each state named
abbrev pub marked : (named marks : List ℕ) → List ℕ
marked [] marks = marks
marked (q ∷ qs) marks = marked qs (set marks q 1)

-- the marks of n states
abbrev pub marks : (n : ℕ) → List (Option Line) → List ℕ
marks n ls = marked (accepts ls) (replicate n 0)

-- the board of the automaton that the lines give
abbrev pub board_in : List (Option Line) → Board
board_in ls = board_of (head ls) (marks (head ls).states ls) (moves ls)

-- ---- the refusals

-- "Program limits: 16 states, 8 letters, 32,768 bytes."
abbrev pub program_states : ℕ
program_states = 16

abbrev pub program_letters : ℕ
program_letters = 8

abbrev pub program_bytes : ℕ
program_bytes = 32768

-- 21: "program limits"
abbrev pub limits_fault : Automaton → Fault
limits_fault a = fails (ltb program_states a.states || ltb program_letters a.letters) ProgramLimits

-- "an accept line not ascending or not below n": that of number i among them
abbrev pub unascending : (named : List ℕ) → ℕ → Bool
unascending qs zero = false
unascending qs (suc i) = leb (get_or qs (suc i) 0) (get_or qs i 0)

abbrev pub stray : (n : ℕ) → (named : List ℕ) → ℕ → Bool
stray n qs i = unascending qs i || leb n (get_or qs i 0)

-- "Refusals: .. 20 ..; then 1, 2; then 21 ..; then 3 ..; then 4 and 6 to 8."
abbrev pub line_faults : List (Option Line) → List Fault
line_faults ls =
    let a = head ls in
    form_fault ls
    ∷ states_fault a.states
    ∷ letters_fault a.letters
    ∷ limits_fault a
    -- 3: "place: its number among accept lines from 0"
    ∷ fails_at Marks (stray a.states (accepts ls)) (length (accepts ls))
    ∷ fails (leb a.states a.start) Start
    ∷ fails_at Outside (outside a.states a.letters (moves ls)) (length (moves ls) / 3)
    ∷ fails_at Unsorted (unsorted (moves ls)) (length (moves ls) / 3)
    ∷ mode_fault (mode ls)
    ∷ []

-- "22 input too long", before the rest; what is at fault with a text, if anything is
unfoldable pub text_fault : (text : List ℕ) → Fault
text_fault text = first_fault (fails (ltb program_bytes (length text)) TooLong ∷ line_faults (lines_of text))

-- ---- what a text must be for nothing to be at fault

pub record Legible (text : List ℕ) : Type 0 where
  pub short : length text ≤ program_bytes
  pub some : 0 < length (lines_of text)
  pub placed : (i : ℕ) → i < length (lines_of text) → misplaced (lines_of text) i ≡ false
  pub ascending : (i : ℕ) → i < length (accepts (lines_of text)) → stray (head (lines_of text)).states (accepts (lines_of text)) i ≡ false
  pub few : (head (lines_of text)).states ≤ program_states
  pub few_letters : (head (lines_of text)).letters ≤ program_letters
  pub formed : Formed (board_in (lines_of text))
  pub started : (head (lines_of text)).start < (head (lines_of text)).states
  pub known : name_of (mode (lines_of text)) ≢ None
