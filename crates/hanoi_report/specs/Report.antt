-- What the second relation program prints for a Hanoi file, as bytes, and the promise of `report`.
use Rattle.std.specs.Prelude.{◌≡◌, List, ℕ, ◌≤◌, ◌<◌, length}
use Rattle.automaton.specs.declared.Refusal.TheVariants.{OutputLength, TooLong}
use Rattle.automaton.specs.Answer.{Answer, first_fault, refused, valued}
use Rattle.arena.specs.Job.{Job}
use Rattle.tokens.specs.Tokens.{token_from}
use Rattle.text.specs.Calls.{before}
use Rattle.text.specs.Text.{program_states, program_letters, program_bytes}
use Rattle.printer.specs.Printed.{refusal_text, relation_text, told}
use Rattle.report.specs.Calls.{longest}
use Rattle.hanoi.specs.declared.Limits.{Limits}
use Rattle.hanoi.specs.Calls.{judgements}
use Rattle.hanoi.specs.File.{File, board_in}
use Rattle.hanoi.specs.Reading as reading

-- "at most four propositions (three in the program)": the limits of the programs
abbrev pub program : Limits
program = record { bytes = program_bytes; states = program_states; letters = program_letters }

-- "A second program reads such a file in mode 2."
abbrev pub delayed : ℕ
delayed = 2

abbrev pub job_in : File → Job
job_in f = record { board = board_in f; start = f.header.start; mode = delayed }

-- what is printed, by what reading comes to: the line of a refusal, or the relation
abbrev pub printed_of : reading.Outcome → List ℕ
printed_of (reading.refused r) = refusal_text r
printed_of (reading.whole f) = told (first_fault (judgements program f)) (relation_text (job_in f))

-- all that the program prints, from the bytes it reads
pub data Prints (file : List ℕ) : List ℕ → Type 0 where
  too_long : {l : List ℕ} → program_bytes < length file → l ≡ refusal_text TooLong → Prints file l
  read : {o : reading.Outcome} {l : List ℕ} → length file ≤ program_bytes → reading.Comes (token_from file) o → l ≡ printed_of o → Prints file l

-- The promise: a buffer shorter than the longest report is refused (16), and in any other the bytes printed lie before the rest.
pub data Reports (file out : List ℕ) (a : Answer) (left : List ℕ) : Type 0 where
  short : length out < longest → a ≡ refused OutputLength → left ≡ out → Reports file out a left
  printed : {l : List ℕ} → longest ≤ length out → Prints file l → a ≡ valued (length l) → left ≡ before l out → Reports file out a left
