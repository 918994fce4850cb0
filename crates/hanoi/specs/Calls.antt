-- `read`, for every text, all limits and every two buffers: what it answers, and the bytes it leaves.
use Rattle.std.specs.Prelude.{◌≡◌, ◌||◌, List, [], ◌∷◌, ℕ, ◌/◌, ◌≤◌, ◌<◌, ltb, leb, length}
use Rattle.automaton.specs.declared.Automaton.{Automaton}
use Rattle.automaton.specs.declared.Refusal.TheVariants.{Start, OutputLength, ProgramLimits, TooLong}
use Rattle.automaton.specs.Answer.{Answer, Fault, fails, first_fault}
use Rattle.automaton.specs.Answer as answer
use Rattle.automaton.specs.Check.{states_fault, letters_fault}
use Rattle.automaton.specs.Effect.{Effect, does}
use Rattle.automaton.specs.Limits.{most_states}
use Rattle.tokens.specs.Tokens.{token_from}
use Rattle.text.specs.Calls.{Lent, before}
use Rattle.hanoi.specs.declared.Limits.{Limits}
use Rattle.hanoi.specs.Answers.{of_reading}
use Rattle.hanoi.specs.File.{File, IsFile, letters_in, automaton_in, marks_in, moves_in}
use Rattle.hanoi.specs.Reading.{Outcome, whole, refused, Comes}

-- ---- refusals

-- behind 23 and 24: 1, 2, 21, 4
abbrev pub faults_of : Limits → Automaton → List Fault
faults_of b a =
    states_fault a.states
    ∷ letters_fault a.letters
    -- 21: "program limits", those that the caller sets
    ∷ fails (ltb b.states a.states || ltb b.letters a.letters) ProgramLimits
    ∷ fails (leb a.states a.start) Start
    ∷ []

abbrev pub judgements : Limits → File → List Fault
judgements b f = faults_of b (automaton_in f)

-- 16: "an output length is wrong": the buffers must hold a mark a state and three bytes a move, and may be longer
abbrev pub short_fault : File → Lent → Fault
short_fault f x = fails (ltb (length x.marks) f.header.states || ltb (length x.moves) (length (moves_in f))) OutputLength

-- ---- the call

-- the answer of an accepted call
abbrev pub held : File → Answer
held f = of_reading (record { automaton = automaton_in f; moves = length (moves_in f) / 3 })

-- what `read` answers and leaves, by what reading comes to
unfoldable pub reading : Limits → Outcome → Lent → Effect Lent
reading b (refused r) x = record { answer = answer.refused r; left = x }
reading b (whole f) x =
    does (first_fault (first_fault (judgements b f) ∷ short_fault f x ∷ [])) x
    (record { answer = held f; left = record { marks = before (marks_in f) x.marks; moves = before (moves_in f) x.moves } })

-- The promise: a text that is too long (22) is not read, and of any other the answer and the bytes left are those of what reading it comes to.
pub data Reads (text : List ℕ) (b : Limits) (x : Lent) (a : Answer) (left : Lent) : Type 0 where
  too_long : b.bytes < length text → a ≡ answer.refused TooLong → left ≡ x → Reads text b x a left
  read : {o : Outcome} → length text ≤ b.bytes → Comes (token_from text) o → a ≡ (reading b o x).answer → left ≡ (reading b o x).left → Reads text b x a left

-- ---- what a text must be to be accepted

-- the text is that of f, a file of the grammar, within the limits of an automaton and those that the caller sets
pub record Legible (text : List ℕ) (b : Limits) (f : File) : Type 0 where
  pub short : length text ≤ b.bytes
  pub is_file : IsFile (token_from text) f
  pub some : 0 < f.header.states
  pub few : f.header.states ≤ most_states
  pub states_within : f.header.states ≤ b.states
  pub letters_within : letters_in f ≤ b.letters
  pub started : f.header.start < f.header.states

-- and both buffers have room for what it gives
abbrev pub Roomy : File → Lent → Type 0
Roomy f x = (f.header.states ≤ length x.marks) × (length (moves_in f) ≤ length x.moves)
