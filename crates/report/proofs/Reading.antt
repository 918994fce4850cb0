-- What `read` tells the report, with room for every text of the programs: why the text is refused, or that it is legible and what it gives.
use Rattle.std.proofs.Common.{Option, Ok, subst, ◌*◌, ◌≡◌, refl, sym, ap, ◌∙◌, List, ℕ, ◌/◌, ◌≤◌, arith, length, take, drop, replicate, length-append, length-drop, take_at}
use lib.ListN.{length-replicate}
use Rattle.automaton.specs.declared.Refusal.{Refusal}
use Rattle.automaton.specs.Answer.{Fault, none, fault, refused, first_fault}
use Rattle.automaton.specs.Effect.{Effect}
use Rattle.automaton.proofs.One.{one-refusal, refused-not}
use Rattle.text.specs.declared.Reading.{Reading}
use Rattle.text.specs.Answers.{of_reading}
use Rattle.text.specs.Calls.{Lent, lent_of, before, held, reading}
use Rattle.text.specs.Lines.{Line, lines_of}
use Rattle.text.specs.Text.{head, mode, marks, moves, line_faults, text_fault, Legible}
use Rattle.text.proofs.Accepted.{text_line}
use Rattle.text.proofs.Effects.{done, lines-fault, reading-refused, reading-done}
use Rattle.text.proofs.Few.{moves-few}
use Rattle.text.proofs.One.{one-reading}
use Rattle.text.proofs.Sound.{marks_length, moves-three}
use Rattle.arena.specs.Job.{job_of}
use Rattle.printer.specs.Small.{Small}
use Rattle.report.specs.Report.{job_read}

-- the two buffers that the report lends
abbrev pub empty : Lent
empty = lent_of (replicate 16 0) (replicate 6144 0)

-- bytes put before the rest of a buffer leave its length, and are its front
pub before-long : (bytes buffer : List ℕ) → length bytes ≤ length buffer → length (before bytes buffer) ≡ length buffer
before-long bytes buffer h = omega (arith, length-append bytes (drop (length bytes) buffer), length-drop (length bytes) buffer)

pub before_front : (bytes buffer : List ℕ) (n : ℕ) → length bytes ≡ n → take n (before bytes buffer) ≡ bytes
before_front bytes buffer n e = take_at bytes (drop (length bytes) buffer) n e

module _ (text : List ℕ) where
  lines_fine : text_fault text ≡ none → first_fault (line_faults (lines_of text)) ≡ none
  lines_fine e = sym (lines-fault text ((text_line text).0 e).short) ∙ e

  -- no text needs more room
  pub text_done : text_fault text ≡ none → reading text empty ≡ done text empty
  text_done e =
      let long : length empty.marks ≡ 16 = length-replicate {A = ℕ} 16 0 in
      let longer : length empty.moves ≡ 6144 = length-replicate {A = ℕ} 6144 0 in
      reading-done text empty e (omega (arith, long, ((text_line text).0 e).few)) (omega (arith, longer, moves-few (lines_of text) (lines_fine e)))

  pub text_few : text_fault text ≡ none → length (moves (lines_of text)) ≤ 6144
  text_few e = moves-few (lines_of text) (lines_fine e)

  pub refused_text : (r : Refusal) → refused r ≡ (reading text empty).answer → text_fault text ≡ fault r
  refused_text r e = go (text_fault text) refl
    where
      go : (f : Fault) → text_fault text ≡ f → f ≡ fault r
      go none d = absurd (refused-not r (held (lines_of text)) refl (e ∙ ap (λ (x : Effect Lent). x.answer) (text_done d)))
      go (fault s) d = ap fault (sym (one-refusal r s (e ∙ ap (λ (x : Effect Lent). x.answer) (reading-refused text empty s d))))

  pub read_text : (r : Reading) → of_reading r ≡ (reading text empty).answer → text_fault text ≡ none
  read_text r e = go (text_fault text) refl
    where
      go : (f : Fault) → text_fault text ≡ f → f ≡ none
      go none d = refl
      go (fault s) d = absurd (refused-not s (of_reading r) refl (sym (e ∙ ap (λ (x : Effect Lent). x.answer) (reading-refused text empty s d))))

  pub job_small : Legible text → Small (job_read text)
  job_small l = ((l.formed, l.started, l.known), (l.few, l.few_letters))

-- what was read, and the two buffers as it left them
pub record Given (text : List ℕ) (r : Reading) (ms vs : List ℕ) : Type 0 where
  pub told : of_reading r ≡ (reading text empty).answer
  pub marked : ms ≡ (reading text empty).left.marks
  pub moved : vs ≡ (reading text empty).left.moves

module _ {text : List ℕ} {r : Reading} {ms vs : List ℕ} (w : Given text r ms vs) where
  abbrev ls : List (Option Line)
  ls = lines_of text

  pub fine : text_fault text ≡ none
  fine = read_text text r w.told

  legible : Legible text
  legible = (text_line text).0 fine

  reading_is : r ≡ record { automaton = head ls; mode = mode ls; moves = length (moves ls) / 3 }
  reading_is =
      let same = one-reading (Ok r) (Ok (record { automaton = head ls; mode = mode ls; moves = length (moves ls) / 3 })) (w.told ∙ ap (λ (x : Effect Lent). x.answer) (text_done text fine)) in
      cc

  states_are : r.automaton.states ≡ (head ls).states
  states_are = ap (λ (x : Reading). x.automaton.states) reading_is

  bytes_are : r.moves * 3 ≡ length (moves ls)
  bytes_are = omega (arith, ap (λ (x : Reading). x.moves) reading_is, moves-three ls)

  pub states_few : r.automaton.states ≤ 16
  states_few = omega (arith, states_are, legible.few)

  pub bytes_few : r.moves * 3 ≤ 6144
  bytes_few = omega (arith, bytes_are, text_few text fine)

  marks_left : ms ≡ before (marks (head ls).states ls) empty.marks
  marks_left = w.marked ∙ ap (λ (x : Effect Lent). x.left.marks) (text_done text fine)

  moves_left : vs ≡ before (moves ls) empty.moves
  moves_left = w.moved ∙ ap (λ (x : Effect Lent). x.left.moves) (text_done text fine)

  pub marks_long : length ms ≡ 16
  marks_long =
      let sixteen : length empty.marks ≡ 16 = length-replicate {A = ℕ} 16 0 in
      ap length marks_left ∙ before-long (marks (head ls).states ls) empty.marks (omega (arith, marks_length (head ls).states ls, legible.few, sixteen)) ∙ sixteen

  pub moves_long : length vs ≡ 6144
  moves_long =
      let room : length empty.moves ≡ 6144 = length-replicate {A = ℕ} 6144 0 in
      ap length moves_left ∙ before-long (moves ls) empty.moves (omega (arith, text_few text fine, room)) ∙ room

  -- the job that is described is the text's
  pub job_is : job_of r.automaton (take r.automaton.states ms) (take (r.moves * 3) vs) r.mode ≡ job_read text
  job_is =
      let a : r.automaton ≡ head ls = ap (λ (x : Reading). x.automaton) reading_is in
      let d : r.mode ≡ mode ls = ap (λ (x : Reading). x.mode) reading_is in
      let x : take r.automaton.states ms ≡ marks (head ls).states ls = ap (take r.automaton.states) marks_left ∙ before_front (marks (head ls).states ls) empty.marks r.automaton.states (marks_length (head ls).states ls ∙ sym states_are) in
      let y : take (r.moves * 3) vs ≡ moves ls = ap (take (r.moves * 3)) moves_left ∙ before_front (moves ls) empty.moves (r.moves * 3) (sym bytes_are) in
      cc

  pub job_fits : Small (job_of r.automaton (take r.automaton.states ms) (take (r.moves * 3) vs) r.mode)
  job_fits = subst Small (sym job_is) (job_small text legible)
