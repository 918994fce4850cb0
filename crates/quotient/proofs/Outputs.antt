-- What `quotient` does where it is not admitted, and where it is, by the lengths of its outputs.
use Rattle.std.proofs.Common.{◌≡◌, ◌≢◌, sym, ap, ◌∙◌, List, ℕ, length, Ok, Err, eq-eqb, ne_eqb}
use mathlib.Core.Bool.{and-false}
use Rattle.automaton.specs.declared.Refusal.{Refusal}
use Rattle.automaton.specs.declared.Refusal.TheVariants.{OutputLength}
use Rattle.automaton.specs.Answer.{refused, Fault, none, fault}
use Rattle.automaton.specs.Board.{Board}
use Rattle.automaton.specs.Effect.{does}
use Rattle.simulation.specs.Answers.{settled}
use Rattle.arena.specs.declared.Arena.{Arena}
use Rattle.arena.specs.Arena.{arena_of, board_in}
use Rattle.arena.specs.Job.{Job, mode_of}
use Rattle.arena.proofs.Open.{open_is}
use Rattle.quotient.specs.Admitted.{admitted}
use Rattle.quotient.specs.Calls.{Buffers, merging, merging_unless, output_fault, quotienting}
use Rattle.quotient.proofs.Admission.{admit_shut, admit_open, opened_too}

-- ---- refusal 16

module _ (B : Board) (x : Buffers) where
  classes_misfit : length x.classes ≢ B.n → output_fault B x ≡ fault OutputLength
  classes_misfit h = simp (ne_eqb (length x.classes) B.n h)

  marks_misfit : length x.marks ≢ B.n → output_fault B x ≡ fault OutputLength
  marks_misfit h = simp (ne_eqb (length x.marks) B.n h, and-false)

  moves_misfit : length x.moves ≢ length B.moves → output_fault B x ≡ fault OutputLength
  moves_misfit h = simp (ne_eqb (length x.moves) (length B.moves) h, and-false)

  pub outputs_fit : length x.classes ≡ B.n → length x.marks ≡ B.n → length x.moves ≡ length B.moves → output_fault B x ≡ none
  outputs_fit c m v = simp (eq-eqb (length x.classes) B.n c, eq-eqb (length x.marks) B.n m, eq-eqb (length x.moves) (length B.moves) v)

-- ---- the call

pub shut_refused : (j : Job) (x : Buffers) (r : Refusal) → admitted j (length x.table) ≡ Err r → quotienting j x ≡ record { answer = refused r; left = x }
unfolding quotienting
shut_refused j x r e = ap (λ (f : Fault). does f x (merging_unless (output_fault j.board x) j x)) (admit_shut j (length x.table) r e)

module _ (j : Job) (x : Buffers) (g : Arena) (o : admitted j (length x.table) ≡ Ok g) where
  -- the arena is the board's
  arena_is : arena_of j.board (mode_of j.mode) ≡ g
  arena_is = (open_is j x.table g (opened_too j (length x.table) g o)).1

  pub states_are : g.states ≡ j.board.n
  states_are = ap (λ (h : Arena). h.states) (sym arena_is)

  -- the refusals 1 to 8, 17 and 9 do not apply
  by-fault : (f : Fault) → output_fault j.board x ≡ f → quotienting j x ≡ merging_unless f j x
  unfolding quotienting
  by-fault f e =
      ap (λ (k : Fault). does k x (merging_unless (output_fault j.board x) j x)) (admit_open j (length x.table) g o) ∙ ap (λ (k : Fault). merging_unless k j x) e

  misfit : output_fault j.board x ≡ fault OutputLength → quotienting j x ≡ record { answer = refused OutputLength; left = x }
  misfit e = by-fault (fault OutputLength) e

  pub classes-refused : length x.classes ≢ g.states → quotienting j x ≡ record { answer = refused OutputLength; left = x }
  classes-refused h = misfit (classes_misfit j.board x (λ e. h (e ∙ sym states_are)))

  pub marks-refused : length x.marks ≢ g.states → quotienting j x ≡ record { answer = refused OutputLength; left = x }
  marks-refused h = misfit (marks_misfit j.board x (λ e. h (e ∙ sym states_are)))

  pub moves-refused : length x.moves ≢ length j.board.moves → quotienting j x ≡ record { answer = refused OutputLength; left = x }
  moves-refused h = misfit (moves_misfit j.board x h)

  -- the quotient in the arena, by a table that is the settled one
  pub merge-does : length x.classes ≡ g.states → length x.marks ≡ g.states → length x.moves ≡ length j.board.moves
      → (t : List ℕ) → t ≡ (settled j.board (mode_of j.mode)).table
      → quotienting j x ≡ merging (board_in g j.board.marks j.board.moves) g.mode j.start t
  merge-does c m v t e =
      by-fault none (outputs_fit j.board x (c ∙ states_are) (m ∙ states_are) v)
      ∙ ap (merging j.board (mode_of j.mode) j.start) (sym e)
      ∙ ap (λ (h : Arena). merging (board_in h j.board.marks j.board.moves) h.mode j.start t) arena_is
