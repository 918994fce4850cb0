-- What admitting a quotient tells: which of the refusals 1 to 8, 17 and 9 there is, or that there is none.
use Rattle.std.proofs.Common.{◌≡◌, ◌≢◌, ◌⊎◌, refl, sym, ap, ◌∙◌, inl, inr, ⊎_elim, true, false, List, [], ◌∷◌, ℕ, zero, suc, length, Ok, Err, arith}
use mathlib.Core.Logic.Iff
use Rattle.automaton.specs.declared.Refusal.{Refusal}
use Rattle.automaton.specs.declared.Refusal.TheVariants.{WrongMode}
use Rattle.automaton.specs.Answer.{Fault, none, fault, first_fault}
use Rattle.automaton.proofs.Fault.{Line, ◌then◌, end, table-line, all_none, found}
use Rattle.arena.specs.declared.Arena.{Arena}
use Rattle.arena.specs.Arena.{arena_of, opened_by, entered, fitted, opened}
use Rattle.arena.specs.Job.{Job, mode_of, game_of}
use Rattle.arena.specs.Refusals.{job_fault, length_fault, Fitting}
use Rattle.arena.proofs.Open.{by_open, by_shut, job_line, enter_shut, enter_open, size-line, opened-fitted}
use Rattle.quotient.specs.Admitted.{admitted}
use Rattle.quotient.specs.Calls.{merges, Mergeable, merge_fault, admit_fault}

-- ---- refused before the length is looked at

module _ (j : Job) (entries : ℕ) where
  pub admitted_shut : (r : Refusal) → entered j ≡ Err r → Err r ≡ admitted j entries
  unfolding admitted
  admitted_shut r e = simp (enter_shut j r e)

  pub admitted-wrong : (g : Arena) → entered j ≡ Ok g → merges g.mode ≡ false → Err WrongMode ≡ admitted j entries
  unfolding admitted
  admitted-wrong g e n =
      let (f, d) = enter_open j g e in
      let wrong : merges (mode_of j.mode) ≡ false = ap (λ (h : Arena). merges h.mode) d ∙ n in
      simp (f, wrong)

-- ---- the lines

-- a mode that is not taken
untaken : (mode : ℕ) → mode ≢ 1 → mode ≢ 2 → Line (fault WrongMode) (Mergeable mode)
untaken mode a b = (λ e. absurd (found e), λ w. absurd (⊎_elim a b w))

pub merge-line : (mode : ℕ) → Line (merge_fault (mode_of mode)) (Mergeable mode)
merge-line zero = untaken 0 (λ e. omega (arith, e)) (λ e. omega (arith, e))
merge-line (suc zero) = (λ e. inl refl, λ w. refl)
merge-line (suc (suc zero)) = (λ e. inr refl, λ w. refl)
merge-line (suc (suc (suc zero))) = untaken 3 (λ e. omega (arith, e)) (λ e. omega (arith, e))
merge-line (suc (suc (suc (suc m)))) = untaken (suc (suc (suc (suc m)))) (λ e. omega (arith, e)) (λ e. omega (arith, e))

pub wrong-mode : (mode : ℕ) → (mode ≡ 0) ⊎ (mode ≡ 3) → merge_fault (mode_of mode) ≡ fault WrongMode
wrong-mode mode (inl e) = rw e
wrong-mode mode (inr e) = rw e

pub admit-line : (j : Job) (t : List ℕ) → Line (admit_fault j (length t)) (Fitting j t × Mergeable j.mode)
admit-line j t =
    Iff.trans (table-line (job_line j then merge-line j.mode then size-line (game_of j).P (length t) then end))
    (λ h. ((h.0, h.1.1.0), h.1.0), λ h. (h.0.0, (h.1, (h.0.1, tt))))

-- a line that finds no fault can be left out
passed_over : (f : Fault) (fs : List Fault) → first_fault (f ∷ none ∷ fs) ≡ first_fault (f ∷ fs)
passed_over none fs = refl
passed_over (fault r) fs = refl

-- ---- admitted

module _ (j : Job) (entries : ℕ) where
  -- where the mode is taken, `for_table` would give the same arena
  mode-taken : merge_fault (mode_of j.mode) ≡ none → opened j entries ≡ admitted j entries
  unfolding opened admitted
  mode-taken e =
      let rest = length_fault (game_of j).P entries ∷ [] in
      sym (ap (λ (f : Fault). opened_by f (arena_of j.board (mode_of j.mode))) (ap (λ (f : Fault). first_fault (job_fault j ∷ f ∷ rest)) e ∙ passed_over (job_fault j) rest))

  pub admitted-fitted : (g : Arena) → entered j ≡ Ok g → merges g.mode ≡ true → fitted g entries ≡ admitted j entries
  admitted-fitted g e n =
      let taken : merges (mode_of j.mode) ≡ true = ap (λ (h : Arena). merges h.mode) (enter_open j g e).1 ∙ n in
      opened-fitted j entries g e ∙ mode-taken (simp taken)

  pub admit_shut : (r : Refusal) → admitted j entries ≡ Err r → admit_fault j entries ≡ fault r
  unfolding admitted
  admit_shut r e = by_shut (admit_fault j entries) _ r e

  pub admit_open : (g : Arena) → admitted j entries ≡ Ok g → admit_fault j entries ≡ none
  unfolding admitted
  admit_open g e = (by_open (admit_fault j entries) _ g e).0

  -- what was admitted was opened
  pub opened_too : (g : Arena) → admitted j entries ≡ Ok g → opened j entries ≡ Ok g
  opened_too g e = mode-taken ((all_none (job_fault j ∷ merge_fault (mode_of j.mode) ∷ length_fault (game_of j).P entries ∷ [])).0 (admit_open g e)).1.0 ∙ e
