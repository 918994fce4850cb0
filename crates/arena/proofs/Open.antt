-- What opening an arena tells: which refusal there is, or that there is none and the arena fits the lent bytes.
use mathlib.Core.Path.{◌≡◌, refl, sym, ap, ◌∙◌, subst}
use mathlib.Core.Logic.Iff
use mathlib.Core.List.{List, [], ◌∷◌}
use Prim.Native.Nat.{ℕ, ◌≤◌}
use Rattle.std.proofs.Common.{Some, None, Ok, Err}
use lib.Dec.{eqb}
use lib.ListN.{length}
use borrow.Author.Tests.{eqb-true, eq-eqb, not-false}
use Rattle.std.proofs.Common.{Option}
use Rattle.std.specs.Option.{ok_or}
use Rattle.automaton.specs.declared.Mode.{Mode}
use Rattle.automaton.specs.declared.Mode.TheVariants.{Ordinary, Direct, Delayed, Fair}
use Rattle.automaton.specs.declared.Refusal.{Refusal}
use Rattle.automaton.specs.declared.Refusal.TheVariants.{ModeNumber, TableLength}
use Rattle.automaton.specs.Answer.{Fault, none, fault, first_fault}
use Rattle.automaton.specs.Check.{automaton_fault}
use Rattle.automaton.specs.Limits.{most_letters, name_of}
use Rattle.automaton.proofs.Fault.{Line, fails-line, ◌then◌, end, table-line, fault-alone}
use Rattle.automaton.proofs.Sound.{automaton-line, mode-line}
use Rattle.simulation.specs.Rules.{ceiling}
use Rattle.simulation.proofs.Limits.{pairs-most}
use Rattle.arena.specs.declared.Arena.{Arena}
use Rattle.arena.specs.Job.{Job, mode_of, game_of}
use Rattle.arena.specs.Refusals.{job_fault, length_fault, open_fault, Proper, Fitting}
use Rattle.arena.specs.Arena.{arena_of, game_in, Ready, opened_by, entered, fitted, opened}

-- ---- reading an opened arena back

pub by_open : (f : Fault) (h g : Arena) → opened_by f h ≡ Ok g → (f ≡ none) × (h ≡ g)
by_open none h g e = (refl, cc)
by_open (fault r) h g e = cc

pub by_shut : (f : Fault) (h : Arena) (r : Refusal) → opened_by f h ≡ Err r → f ≡ fault r
by_shut none h r e = cc
by_shut (fault s) h r e = cc

-- ---- refusals 1 to 8

pub job_line : (j : Job) → Line (job_fault j) (Proper j)
job_line j =
    Iff.trans (table-line (automaton-line j.board j.start then mode-line j.mode then end))
    (λ h. (h.0.0, h.0.1, h.1.0), λ h. ((h.0, h.1), (h.2, tt)))

-- T does not depend on the moves
pub ceiling-moves : (n k : ℕ) (marks ms ns : List ℕ) (m : Mode)
    → ceiling (record { n = n; k = k; marks = marks; moves = ms }) m ≡ ceiling (record { n = n; k = k; marks = marks; moves = ns }) m
ceiling-moves n k marks ms ns Ordinary = refl
ceiling-moves n k marks ms ns Direct = refl
ceiling-moves n k marks ms ns Delayed = refl
ceiling-moves n k marks ms ns Fair = refl

-- what a number's mode was, from what the conversion of the number gave
pub unnamed : (o : Option Mode) (r : Refusal) → Err r ≡ ok_or o ModeNumber → (o ≡ None) × (r ≡ ModeNumber)
unnamed None r e = (refl, cc)
unnamed (Some m) r e = cc

module _ (j : Job) where
  pub entered-refused : (r : Refusal) → automaton_fault j.board j.start ≡ fault r → Err r ≡ entered j
  unfolding entered
  entered-refused r e = simp e

  pub entered_unknown : automaton_fault j.board j.start ≡ none → name_of j.mode ≡ None → Err ModeNumber ≡ entered j
  unfolding entered
  entered_unknown e d = simp (e, d)

  pub entered-known : (m : Mode) → automaton_fault j.board j.start ≡ none → name_of j.mode ≡ Some m → Ok (arena_of j.board m) ≡ entered j
  unfolding entered
  entered-known m e d = simp (e, d)

  pub enter_shut : (r : Refusal) → entered j ≡ Err r → job_fault j ≡ fault r
  unfolding entered
  enter_shut r e = by_shut (job_fault j) _ r e

  pub enter_open : (g : Arena) → entered j ≡ Ok g → (job_fault j ≡ none) × (arena_of j.board (mode_of j.mode) ≡ g)
  unfolding entered
  enter_open g e = by_open (job_fault j) _ g e

  -- an arena that was entered has few positions
  pub enter_small : (g : Arena) → entered j ≡ Ok g → (g.pairs ≤ 8192) × (g.letters ≤ most_letters)
  enter_small g e =
      let (n, d) = enter_open g e in
      let F = ((job_line j).0 n).0 in
      subst (λ (h : Arena). (h.pairs ≤ 8192) × (h.letters ≤ most_letters)) d (pairs-most j.board (mode_of j.mode) F.few, F.few_letters)

-- ---- refusals 1 to 9

pub size-line : (P entries : ℕ) → Line (length_fault P entries) (entries ≡ P)
size-line P entries = fails-line _ _ TableLength (λ e. eqb-true entries P (not-false (eqb entries P) e), λ e. simp (eq-eqb entries P e))

pub open_line : (j : Job) (t : List ℕ) → Line (open_fault j (length t)) (Fitting j t)
open_line j t = Iff.trans (table-line (job_line j then size-line (game_of j).P (length t) then end)) (λ h. (h.0, h.1.0), λ h. (h.0, (h.1, tt)))

module _ (j : Job) (entries : ℕ) where
  pub opened_shut : (r : Refusal) → entered j ≡ Err r → Err r ≡ opened j entries
  unfolding opened
  opened_shut r e = simp (enter_shut j r e)

  pub opened-fitted : (g : Arena) → entered j ≡ Ok g → fitted g entries ≡ opened j entries
  unfolding opened
  opened-fitted g e =
      let (n, d) = enter_open j g e in
      let length = length_fault (game_of j).P entries in
      ap (λ (h : Arena). fitted h entries) (sym d)
      ∙ ap (λ (f : Fault). opened_by f (arena_of j.board (mode_of j.mode))) (fault-alone length ∙ sym (ap (λ (f : Fault). first_fault (f ∷ length ∷ [])) n))

-- ---- what an opened arena is

module _ (j : Job) (t : List ℕ) where
  pub shut_fault : (r : Refusal) → opened j (length t) ≡ Err r → open_fault j (length t) ≡ fault r
  unfolding opened
  shut_fault r o = by_shut (open_fault j (length t)) _ r o

  module _ (g : Arena) (o : opened j (length t) ≡ Ok g) where
    pub open_is : (open_fault j (length t) ≡ none) × (arena_of j.board (mode_of j.mode) ≡ g)
    unfolding opened
    open_is = by_open (open_fault j (length t)) _ g o

    pub open_faultless : open_fault j (length t) ≡ none
    open_faultless = open_is.0

    pub open_game : game_of j ≡ game_in g j.board.marks j.board.moves
    open_game = ap (λ h. game_in h j.board.marks j.board.moves) open_is.1

    pub open_ready : Ready g j.board.marks j.board.moves t
    open_ready = subst (λ h. Ready h j.board.marks j.board.moves t) open_is.1 ready
      where
        holds : Fitting j t
        holds = (open_line j t).0 open_faultless

        ready : Ready (arena_of j.board (mode_of j.mode)) j.board.marks j.board.moves t
        ready = record { formed = holds.0.0; paired = refl; topped = refl; entries = holds.1 }

-- of the table, only the length matters to the arena
pub ready-again : (g : Arena) (marks moves t u : List ℕ) → Ready g marks moves t → length u ≡ length t → Ready g marks moves u
ready-again g marks moves t u R e = record { formed = R.formed; paired = R.paired; topped = R.topped; entries = e ∙ R.entries }
