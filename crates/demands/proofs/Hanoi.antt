-- Hanoi files, which "other tools" write: what is proved of `hanoi::read` and of the second relation program, each theorem under the words it renders.
-- Their promises are relations: `Reads` and `Reports` hold of what a call is given, answers and leaves. The code is proved to meet them for every input.
use Rattle.std.proofs.Common.{Result, ◌≡◌, sym, ap, ◌∙◌, subst, ◌≢◌, ◌↔◌, true, List, ℕ, ◌≤◌, ◌<◌, length, get_or}
use Rattle.automaton.specs.declared.Mode.TheVariants.{Delayed}
use Rattle.automaton.specs.declared.Refusal.{Refusal}
use Rattle.automaton.specs.Answer.{Answer, answered, valued, refused}
use Rattle.automaton.specs.Board.{Formed}
use Rattle.simulation.specs.Answers.{below, settled}
use Rattle.simulation.specs.Moves.{Moves}
use Rattle.simulation.specs.Won.{WonPair}
use Rattle.bodies.specs.Body.{accepting, unlisted}
use Rattle.text.specs.Calls.{Lent, lent_of, before}
use Rattle.text.specs.Text as of-text
use Rattle.printer.specs.Printed.{relation_text}
use Rattle.report.specs.Calls.{longest}
use Rattle.report.specs.Report.{job_read, report_of}
use Rattle.hanoi.specs.declared.Limits.{Limits}
use Rattle.hanoi.specs.declared.Reading.{Reading}
use Rattle.hanoi.specs.Answers.{of_reading}
use Rattle.hanoi.specs.Calls.{held, Legible, Reads, Roomy}
use Rattle.hanoi.specs.File.{File, board_in, marks_in, moves_in}
use Rattle.hanoi_report.specs.Report.{program, job_in, Prints, Reports}
-- the proofs
use Rattle.text.proofs.Accepted.{text_line}
use Rattle.report.proofs.One.{one_reported}
use Rattle.report.proofs.Told.{report-told}
use Rattle.hanoi.proofs.Accepted.{legible_formed, read-accepted, read-gives, read-refused}
use Rattle.hanoi.proofs.Edges.{LeadsOne}
use Rattle.hanoi.proofs.Formed.{Inside, marks_exact, moves-edges}
use Rattle.hanoi.proofs.One.{one-reading, reads_one}
use Rattle.hanoi.proofs.Places.{answer-within}
use Rattle.hanoi_report.proofs.Reading.{legible_printed}
use Rattle.hanoi_report.proofs.Told.{prints_fit, reports_one}
use Rattle.demands.proofs.Played.{below-settled}

-- ---- `hanoi::read`: bytes, the limits that the caller sets, and two lent buffers

module _ (file : List ℕ) (b : Limits) (x : Lent) where
  module _ (a : Answer) (l : Lent) (R : Reads file b x a l) where
    -- It accepts exactly the texts of the grammar within the limits, where the buffers have room.
    pub hanoi_accepted : (a.number ≡ 0) ↔ ((f : File) × Legible file b f × Roomy f x)
    hanoi_accepted = read-accepted R

    -- Then it answers the automaton of the file, and its marks and moves lie before the rest of the buffers.
    pub hanoi_gives : (f : File) → Legible file b f → Roomy f x → (a ≡ held f) × (l ≡ lent_of (before (marks_in f) x.marks) (before (moves_in f) x.moves))
    hanoi_gives f L room = read-gives R L room

    -- If not, it answers one of the numbered refusals and writes nothing.
    pub hanoi_refused : a.number ≢ 0 → (r : Refusal) × (a ≡ refused r) × (l ≡ x)
    hanoi_refused = read-refused R

    -- A place is that of a byte of the text, or its length.
    pub hanoi_place : a.place ≤ length file
    hanoi_place = answer-within R

  -- Any two results that meet the promise coincide.
  pub hanoi_one : (r s : Result Reading Refusal) (l m : Lent) → Reads file b x (answered of_reading r) l → Reads file b x (answered of_reading s) m → (r ≡ s) × (l ≡ m)
  hanoi_one r s l m p q = let same = reads_one p q in (one-reading r s same.0, same.1)

  module _ (f : File) (L : Legible file b f) where
    -- "The moves read are exactly those whose letter makes the label true": of an edge of the file.
    pub hanoi_moves : (q a r : ℕ) → Moves (board_in f) q a r ↔ (Inside f q a r × LeadsOne q a r f.edges)
    hanoi_moves = moves-edges f L.some

    -- "sorted, each once": the automaton is well formed, so its moves ascend strictly.
    pub hanoi_formed : Formed (board_in f)
    hanoi_formed = legible_formed L

    -- "marks on states only"
    pub hanoi_marks : (q : ℕ) → q < f.header.states → (get_or (marks_in f) q 0 ≡ 1) ↔ (get_or f.sheet q unlisted ≡ accepting)
    hanoi_marks = marks_exact f

-- ---- "A second program reads such a file in mode 2."

module _ (file : List ℕ) where
  -- Of a legible file it prints the relation, in which a pair is listed exactly if Duplicator wins it in the delayed game.
  pub hanoi_printed : (f : File) → Legible file program f
      → Prints file (relation_text (job_in f))
      × ((q r : ℕ) → q < f.header.states → r < f.header.states
      → (below (board_in f) Delayed (settled (board_in f) Delayed).table q r ≡ true) ↔ WonPair (board_in f) Delayed q r)
  hanoi_printed f L = (legible_printed L, below-settled (board_in f) (legible_formed L) Delayed)

  -- The same automaton in a text, in mode 2: the first program prints the same bytes.
  pub hanoi_same : (f : File) → Legible file program f → (text : List ℕ) → of-text.Legible text → job_read text ≡ job_in f → Prints file (report_of text)
  hanoi_same f L text l e = subst (Prints file) (sym (report-told text ((text_line text).1 l) ∙ ap relation_text e)) (legible_printed L)

  -- What it prints has room in the longest report,
  pub hanoi_fits : (l : List ℕ) → Prints file l → length l ≤ longest
  hanoi_fits l = prints_fit

  -- and any two results coincide.
  pub hanoi_report-one : (out : List ℕ) (r s : Result ℕ Refusal) (l m : List ℕ) → Reports file out (answered valued r) l → Reports file out (answered valued s) m → (r ≡ s) × (l ≡ m)
  hanoi_report-one out r s l m p q = let same = reports_one p q in (one_reported r s same.0, same.1)
