-- What `read` tells the report, with room for every file of the programs: why the file is refused, or that it is legible and what it gives.
use Rattle.std.proofs.Common.{Ok, ◌*◌, subst, take, ◌≡◌, refl, sym, ap, ◌∙◌, List, ℕ, ◌/◌, ◌≤◌, arith, length}
use lib.ListN.{length-replicate}
use Rattle.automaton.specs.declared.Refusal.{Refusal}
use Rattle.automaton.specs.declared.Refusal.TheVariants.{TooLong}
use Rattle.automaton.specs.Answer.{Fault, none, fault, first_fault, refused}
use Rattle.automaton.specs.Effect.{Effect}
use Rattle.automaton.proofs.One.{one-refusal, refused-not}
use Rattle.text.specs.Calls.{Lent, lent_of, before}
use Rattle.printer.specs.Printed.{refusal_text, relation_text, told}
use Rattle.printer.specs.Small.{Small}
use Rattle.arena.specs.Job.{job_of}
use Rattle.report.proofs.Reading.{before-long, before_front, empty}
use Rattle.hanoi.specs.declared.Reading.{Reading}
use Rattle.hanoi.specs.Answers.{of_reading}
use Rattle.hanoi.specs.Calls.{judgements, held, reading, Reads, too_long, read, Legible, Roomy}
use Rattle.hanoi.specs.File.{File, automaton_in, marks_in, moves_in}
use Rattle.hanoi.specs.Reading as outcome
use Rattle.hanoi.proofs.Accepted.{judged_line, reading-done, legible_judged, legible_formed, read-accepted, read-gives}
use Rattle.hanoi.proofs.Exact.{comes_file}
use Rattle.hanoi.proofs.Formed.{moves-few}
use Rattle.hanoi.proofs.One.{one-reading}
use Rattle.hanoi_report.specs.Report.{delayed, program, job_in, Prints}
use Rattle.hanoi_report.specs.Report as report

-- no file within the limits of the programs needs more room
roomy : (f : File) → first_fault (judgements program f) ≡ none → Roomy f empty
roomy f e =
    let j = (judged_line program f).0 e in
    let long : length empty.marks ≡ 16 = length-replicate {A = ℕ} 16 0 in
    let longer : length empty.moves ≡ 6144 = length-replicate {A = ℕ} 6144 0 in
    (omega (arith, long, j.2.0), omega (arith, longer, moves-few f j.2.0 j.2.1))

-- a file that the numbers refuse
reading_judged : (f : File) (r : Refusal) → first_fault (judgements program f) ≡ fault r → (reading program (outcome.whole f) empty).answer ≡ refused r
unfolding reading
reading_judged f r e = simp e

-- why a file is refused is what is printed
pub refused-printed : (file : List ℕ) (r : Refusal) (l : Lent) → Reads file program empty (refused r) l → Prints file (refusal_text r)
unfolding reading
refused-printed file r l (too_long h e d) = report.too_long h (ap refusal_text (one-refusal r TooLong e))
refused-printed file r l (read {o = outcome.refused s} h w e d) = report.read h w (ap refusal_text (one-refusal r s e))
refused-printed file r l (read {o = outcome.whole f} h w e d) = go (first_fault (judgements program f)) refl
  where
    go : (g : Fault) → first_fault (judgements program f) ≡ g → Prints file (refusal_text r)
    go none n = absurd (refused-not r (held f) refl (e ∙ ap (λ (x : Effect Lent). x.answer) (reading-done program f empty ((judged_line program f).0 n) (roomy f n))))
    go (fault s) n = report.read h w (ap refusal_text (one-refusal r s (e ∙ reading_judged f s n)) ∙ sym (ap (λ (g : Fault). told g (relation_text (job_in f))) n))

-- what is known of a file that was read
pub record Given (file : List ℕ) (r : Reading) (l : Lent) : Type 0 where
  pub file_is : File
  pub legible : Legible file program file_is
  pub reading_is : r ≡ record { automaton = automaton_in file_is; moves = length (moves_in file_is) / 3 }
  pub left_is : l ≡ lent_of (before (marks_in file_is) empty.marks) (before (moves_in file_is) empty.moves)

pub read-given : (file : List ℕ) (r : Reading) (l : Lent) → Reads file program empty (of_reading r) l → Given file r l
read-given file r l R =
    let (f, L, room) = (read-accepted R).0 refl in
    let p = read-gives R L room in
    let same = one-reading (Ok r) (Ok (record { automaton = automaton_in f; moves = length (moves_in f) / 3 })) p.0 in
    record { file_is = f; legible = L; reading_is = cc; left_is = p.1 }

module _ {file : List ℕ} {f : File} (L : Legible file program f) where
  -- nothing is at fault with its numbers
  legible_none : first_fault (judgements program f) ≡ none
  legible_none = (judged_line program f).1 (legible_judged L)

  -- its relation is what is printed
  pub legible_printed : Prints file (relation_text (job_in f))
  legible_printed = report.read L.short (comes_file.1 L.is_file) (sym (ap (λ (g : Fault). told g (relation_text (job_in f))) legible_none))

  pub legible_small : Small (job_in f)
  legible_small = ((legible_formed L, L.started, λ e. absurd (let z : ◌≡◌ {A = ℕ} 0 1 = cc in omega arith)), (L.states_within, L.letters_within))

  pub legible_few : length (moves_in f) ≤ 6144
  legible_few = moves-few f L.states_within L.letters_within

-- the job that is described is the file's, and its bytes lie in the two buffers
module _ {file : List ℕ} {r : Reading} {l : Lent} (w : Given file r l) where
  abbrev f : File
  f = w.file_is

  states_are : r.automaton.states ≡ f.header.states
  states_are = ap (λ (x : Reading). x.automaton.states) w.reading_is

  bytes_are : r.moves * 3 ≡ length (moves_in f)
  bytes_are = omega (arith, ap (λ (x : Reading). x.moves) w.reading_is, (legible_formed w.legible).whole)

  marks_count : length (marks_in f) ≡ f.header.states
  marks_count = (legible_formed w.legible).marked

  pub states_few : r.automaton.states ≤ 16
  states_few = omega (arith, states_are, w.legible.states_within)

  pub bytes_few : r.moves * 3 ≤ 6144
  bytes_few = omega (arith, bytes_are, legible_few w.legible)

  pub marks_long : length l.marks ≡ 16
  marks_long =
      let sixteen : length empty.marks ≡ 16 = length-replicate {A = ℕ} 16 0 in
      ap (λ (x : Lent). length x.marks) w.left_is ∙ before-long (marks_in f) empty.marks (omega (arith, marks_count, w.legible.states_within, sixteen)) ∙ sixteen

  pub moves_long : length l.moves ≡ 6144
  moves_long =
      let room : length empty.moves ≡ 6144 = length-replicate {A = ℕ} 6144 0 in
      ap (λ (x : Lent). length x.moves) w.left_is ∙ before-long (moves_in f) empty.moves (omega (arith, legible_few w.legible, room)) ∙ room

  job_is : job_of r.automaton (take r.automaton.states l.marks) (take (r.moves * 3) l.moves) delayed ≡ job_in f
  job_is =
      let a : r.automaton ≡ automaton_in f = ap (λ (x : Reading). x.automaton) w.reading_is in
      let x : take r.automaton.states l.marks ≡ marks_in f = ap (λ (y : Lent). take r.automaton.states y.marks) w.left_is ∙ before_front (marks_in f) empty.marks r.automaton.states (marks_count ∙ sym states_are) in
      let y : take (r.moves * 3) l.moves ≡ moves_in f = ap (λ (z : Lent). take (r.moves * 3) z.moves) w.left_is ∙ before_front (moves_in f) empty.moves (r.moves * 3) (sym bytes_are) in
      cc

  pub job_fits : Small (job_of r.automaton (take r.automaton.states l.marks) (take (r.moves * 3) l.moves) delayed)
  job_fits = subst Small (sym job_is) (legible_small w.legible)

  pub job_printed : Prints file (relation_text (job_of r.automaton (take r.automaton.states l.marks) (take (r.moves * 3) l.moves) delayed))
  job_printed = subst (λ j. Prints file (relation_text j)) (sym job_is) (legible_printed w.legible)
