-- "Quotient", for every input: what it answers, and all bytes of the four buffers lent to it.
use Rattle.std.specs.Prelude.{◌≡◌, ◌⊎◌, Bool, true, false, ◌&&◌, not, List, [], ◌∷◌, ℕ, ◌*◌, eqb, length, get_or, take}
use Rattle.automaton.specs.declared.Mode.{Mode}
use Rattle.automaton.specs.declared.Mode.TheVariants.{Ordinary, Direct, Delayed, Fair}
use Rattle.automaton.specs.declared.Refusal.TheVariants.{OutputLength, WrongMode}
use Rattle.automaton.specs.Answer.{Answer, Fault, fails, first_fault}
use Rattle.automaton.specs.Board.{Board}
use Rattle.automaton.specs.Effect.{Effect, does}
use Rattle.simulation.specs.Answers.{settled}
use Rattle.simulation.specs.Quotient.{class_of, class_count, class_bytes, mark_bytes, move_count, move_bytes}
use Rattle.arena.specs.Job.{Job, mode_of, game_of}
use Rattle.arena.specs.Refusals.{job_fault, length_fault}

-- what the lent buffers hold: the table, and the classes, marks and moves written
pub record Buffers : Type 0 where
  pub table : List ℕ
  pub classes : List ℕ
  pub marks : List ℕ
  pub moves : List ℕ

abbrev pub buffers : (table classes marks moves : List ℕ) → Buffers
buffers t classes marks moves = record { table = t; classes = classes; marks = marks; moves = moves }

-- "Quotients are formed in modes 1 and 2 only"
abbrev pub merges : Mode → Bool
merges Ordinary = false
merges Direct = true
merges Delayed = true
merges Fair = false

-- the numbers of these modes
abbrev pub Mergeable : (mode : ℕ) → Type 0
Mergeable mode = (mode ≡ 1) ⊎ (mode ≡ 2)

-- 17: "quotient in mode 0 or 3"
abbrev pub merge_fault : Mode → Fault
merge_fault m = fails (not (merges m)) WrongMode

-- 1 to 8; then 17, "after 8 and before 9"; then 9
abbrev pub admit_fault : Job → (entries : ℕ) → Fault
admit_fault j entries = first_fault (job_fault j ∷ merge_fault (mode_of j.mode) ∷ length_fault (game_of j).P entries ∷ [])

-- the outputs have "n bytes", "n bytes", and "same length as the input's moves"
abbrev pub Sized : Board → Buffers → Type 0
Sized B x = (length x.classes ≡ B.n) × (length x.marks ≡ B.n) × (length x.moves ≡ length B.moves)

-- 16: "an output length is wrong"
abbrev pub output_fault : Board → Buffers → Fault
output_fault B x =
    fails (not (eqb (length x.classes) B.n && eqb (length x.marks) B.n && eqb (length x.moves) (length B.moves))) OutputLength

-- an accepted quotient: "Answers: class count, move count, start class."
abbrev pub counted : (classes moves start : ℕ) → Answer
counted classes moves start = record { number = 0; place = 0; values = classes ∷ moves ∷ start ∷ [] }

-- the quotient by a table t: what is answered and written
abbrev pub merging : Board → Mode → (start : ℕ) → (table : List ℕ) → Effect Buffers
merging B m start t = record {
  answer = counted (class_count B m t) (move_count B m t) (class_of B m t start);
  left = buffers t (class_bytes B m t) (mark_bytes B m t) (move_bytes B m t);
}

-- "settles the lent table itself", and writes the quotient by it, unless an output's length is at fault
abbrev pub merging_unless : Fault → Job → (lent : Buffers) → Effect Buffers
merging_unless f j x = let m = mode_of j.mode in does f x (merging j.board m j.start (settled j.board m).table)

unfoldable pub quotienting : Job → (lent : Buffers) → Effect Buffers
quotienting j x = does (admit_fault j (length x.table)) x (merging_unless (output_fault j.board x) j x)

-- ---- reading it back

-- the automaton that the written bytes make up, with k letters: as many marks and moves as the answer counts, without the unused bytes
abbrev pub written : (k : ℕ) → Effect Buffers → Board
written k e = record {
  n = get_or e.answer.values 0 0;
  k = k;
  marks = take (get_or e.answer.values 0 0) e.left.marks;
  moves = take (get_or e.answer.values 1 0 * 3) e.left.moves;
}
