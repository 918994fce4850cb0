-- When `quotient` is accepted, what it then does, and that a refused one leaves all four buffers as they were.
use Rattle.std.proofs.Common.{◌≡◌, refl, ap, ◌∙◌, ◌≢◌, ◌↔◌, ◌⊎◌, Bool, true, ◌&&◌, eqb, length, eqb-true, ne_eqb}
use mathlib.Core.Bool.{and-eq-true_iff}
use borrow.Author.Tests.{not-false}
use mathlib.Core.Logic.Iff
use Rattle.automaton.specs.declared.Refusal.TheVariants.{TableLength, OutputLength, WrongMode}
use Rattle.automaton.specs.Answer.{refused, Fault}
use Rattle.automaton.specs.Board.{Board}
use Rattle.automaton.specs.Effect.{does, Refuses}
use Rattle.automaton.proofs.Effects.{always, does-number, does-refuse}
use Rattle.automaton.proofs.Fault.{Line, fails-line}
use Rattle.simulation.specs.Answers.{settled}
use Rattle.arena.specs.Job.{Job, mode_of, game_of}
use Rattle.arena.specs.Refusals.{Proper, Fitting}
use Rattle.arena.proofs.Open.{job_line}
use Rattle.quotient.specs.Calls.{Buffers, Mergeable, Sized, admit_fault, output_fault, merging, quotienting}
use Rattle.quotient.proofs.Admission.{merge-line, wrong-mode, admit-line}
use Rattle.quotient.proofs.Outputs.{outputs_fit}

output_line : (B : Board) (x : Buffers) → Line (output_fault B x) (Sized B x)
output_line B x = (λ e. sized ((fails-line _ _ OutputLength (λ e. not-false (classes && marks && moves) e, λ e. rw e)).0 e), λ h. outputs_fit B x h.0 h.1 h.2)
  where
    classes : Bool
    classes = eqb (length x.classes) B.n

    marks : Bool
    marks = eqb (length x.marks) B.n

    moves : Bool
    moves = eqb (length x.moves) (length B.moves)

    sized : (classes && marks && moves) ≡ true → Sized B x
    sized e =
        let a = (and-eq-true_iff (classes && marks) moves).0 e in
        let b = (and-eq-true_iff classes marks).0 a.0 in
        (eqb-true _ _ b.0, eqb-true _ _ b.1, eqb-true _ _ a.1)

module _ (j : Job) (x : Buffers) where
  pub quotient-accepted : ((quotienting j x).answer.number ≡ 0) ↔ (Fitting j x.table × Mergeable j.mode × Sized j.board x)
  unfolding quotienting
  quotient-accepted =
      Iff.trans
      (does-number (admit_fault j (length x.table)) x _ _ _ (admit-line j x.table)
      (does-number (output_fault j.board x) x _ _ _ (output_line j.board x)
      (always (merging j.board (mode_of j.mode) j.start (settled j.board (mode_of j.mode)).table).answer refl)))
      (λ h. (h.0.0, h.0.1, h.1.0), λ h. ((h.0, h.1), (h.2, tt)))

  pub quotient-does : Fitting j x.table → Mergeable j.mode → Sized j.board x → quotienting j x ≡ merging j.board (mode_of j.mode) j.start (settled j.board (mode_of j.mode)).table
  unfolding quotienting
  quotient-does f m s =
      let done = merging j.board (mode_of j.mode) j.start (settled j.board (mode_of j.mode)).table in
      ap (λ (k : Fault). does k x (does (output_fault j.board x) x done)) ((admit-line j x.table).1 (f, m)) ∙ ap (λ (k : Fault). does k x done) ((output_line j.board x).1 s)

  pub quotient-refused : (quotienting j x).answer.number ≢ 0 → Refuses x (quotienting j x)
  unfolding quotienting
  quotient-refused = does-refuse (admit_fault j (length x.table)) x _ (does-refuse (output_fault j.board x) x _ (λ n. absurd (n refl)))

  -- ---- the refusals of modes and lengths

  pub quotient-wrong : Proper j → (j.mode ≡ 0) ⊎ (j.mode ≡ 3) → quotienting j x ≡ record { answer = refused WrongMode; left = x }
  unfolding quotienting
  quotient-wrong p w = simp ((job_line j).1 p, wrong-mode j.mode w)

  pub quotient_length : Proper j → Mergeable j.mode → length x.table ≢ (game_of j).P → quotienting j x ≡ record { answer = refused TableLength; left = x }
  unfolding quotienting
  quotient_length p m n = simp ((job_line j).1 p, (merge-line j.mode).1 m, ne_eqb (length x.table) (game_of j).P n)
