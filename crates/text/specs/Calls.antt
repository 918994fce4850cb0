-- `read`, for every text and every two buffers: what it answers, and the bytes it leaves.
use Rattle.std.specs.Prelude.{◌||◌, List, [], ◌∷◌, ◌++◌, ℕ, ◌/◌, ◌≤◌, ltb, length, drop, Option}
use Rattle.automaton.specs.declared.Refusal.TheVariants.{OutputLength}
use Rattle.automaton.specs.Answer.{Answer, Fault, fails, first_fault}
use Rattle.automaton.specs.Effect.{Effect, does}
use Rattle.lines.specs.declared.line.Line.{Line}
use Rattle.lines.specs.Lines.{lines_of}
use Rattle.text.specs.Answers.{of_reading}
use Rattle.text.specs.Text.{head, mode, marks as marks_of, moves as moves_of, text_fault}

-- what is lent for the marks and for the moves
pub record Lent : Type 0 where
  pub marks : List ℕ
  pub moves : List ℕ

abbrev pub lent_of : (marks moves : List ℕ) → Lent
lent_of marks moves = record { marks = marks; moves = moves }

-- 16: "an output length is wrong": the buffers must hold a mark a state and three bytes a move, and may be longer
abbrev pub short_fault : List (Option Line) → Lent → Fault
short_fault ls x = fails (ltb (length x.marks) (head ls).states || ltb (length x.moves / 3) (length (moves_of ls) / 3)) OutputLength

abbrev pub Roomy : (text : List ℕ) → Lent → Type 0
Roomy text x = let ls = lines_of text in ((head ls).states ≤ length x.marks) × (length (moves_of ls) / 3 ≤ length x.moves / 3)

-- bytes at the front of a buffer, the rest as it was
abbrev pub before : (bytes buffer : List ℕ) → List ℕ
before bytes buffer = bytes ++ drop (length bytes) buffer

-- the answer of an accepted call
abbrev pub held : List (Option Line) → Answer
held ls = of_reading (record { automaton = head ls; mode = mode ls; moves = length (moves_of ls) / 3 })

-- what `read` answers and leaves
unfoldable pub reading : (text : List ℕ) → Lent → Effect Lent
reading text x =
    let ls = lines_of text in
    does (first_fault (text_fault text ∷ short_fault ls x ∷ [])) x
    (record {
      answer = held ls;
      left = record { marks = before (marks_of (head ls).states ls) x.marks; moves = before (moves_of ls) x.moves };
    })
