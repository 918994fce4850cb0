-- `judge` meets its contract: what `limits` answered decides the first two lines, each test one line more, and the mode the last.
use Rattle.std.proofs.Common.{◌≡◌, ◌∙◌, Err, Ok, Option, Result, None, Some, List, ℕ, ap, drop, inl, inr, le-ltb, le-leb, lt-ltb, sym, take}
use Rattle.std.proofs.lemmas.Bool.{lt-leb}
use Rattle.std.proofs.lemmas.Result.{err_from_is_err_and}
use Rattle.std.specs.Option.{ok_or}
use Rattle.automaton.specs.Answer.{accepted, answered, done, fails, Fault, fault, first_fault, none, unless}
use Rattle.automaton.specs.Check.{limited, mode_fault}
use Rattle.automaton.specs.Limits.{is_unknown, name_of}
use Rattle.automaton.specs.declared.Mode.{Mode}
use Rattle.automaton.specs.declared.Refusal.{Refusal}
use Rattle.automaton.specs.declared.Refusal.TheVariants.{Marks, ModeNumber, Outside, ProgramLimits, Start, Unsorted}
use Rattle.automaton.proofs.Fault.{faults_passed, faults_stopped}
use Rattle.automaton.proofs.One.{checked-none, checked-fault}
use Rattle.text.specs.declared.survey.Survey.{Survey}
use Rattle.text.specs.Survey.{judgements}
use Rattle.text.proofs.judge.Goals as goal

module _ (s : Survey) where
  abbrev limit_lines : List Fault
  limit_lines = take 2 (judgements s)

  abbrev more_lines : List Fault
  more_lines = drop 2 (judgements s)

  -- past the limits the lines behind them decide
  past_limits : (r : Result (Unit {0}) Refusal) {x : Unit {0}} → r ≡ Ok x → answered done r ≡ limited s.automaton.states s.automaton.letters
      → (f : Fault) → first_fault more_lines ≡ f → unless f accepted ≡ unless (first_fault (judgements s)) accepted
  unfolding limited
  past_limits r e h f d = ap (λ g. unless g accepted) (sym d ∙ sym (faults_passed limit_lines more_lines (checked-none _ r e h)))

-- a number that is no mode's, and one that is
mode-refused : (m : ℕ) (r : Refusal) → Err r ≡ ok_or (name_of m) ModeNumber → mode_fault m ≡ fault r
mode-refused m r e = go (name_of m) e
  where
    go : (o : Option Mode) → Err r ≡ ok_or o ModeNumber → fails (is_unknown o) ModeNumber ≡ fault r
    go (Some x) e = cc
    go None e = cc

mode-known : (m : ℕ) (x : Mode) → Ok x ≡ ok_or (name_of m) ModeNumber → mode_fault m ≡ none
mode-known m x e = go (name_of m) e
  where
    go : (o : Option Mode) → Ok x ≡ ok_or o ModeNumber → fails (is_unknown o) ModeNumber ≡ none
    go (Some x) e = cc
    go None e = cc

pub returns-in_err-limits : goal.returns-in_err-limits
unfolding limited
returns-in_err-limits c =
    let s = c.args.survey in
    let e = checked-fault (first_fault (limit_lines s)) c.limits.result _ c.in_err-limits.was c.limits.ensures in
    let p = err_from_is_err_and c.from_residual.result c.from_residual.ensures.1 in
    rw (p.1, p.2) (ap (λ f. unless f accepted) (sym (faults_stopped (limit_lines s) (more_lines s) _ e)))

pub returns-then-states-gt-STATES : goal.returns-then-states-gt-STATES
returns-then-states-gt-STATES c =
    past_limits c.args.survey c.limits.result c.in_ok-limits.was c.limits.ensures (fault ProgramLimits) (elim c.then-states-gt-STATES.either [
      | inl w ↦ simp (lt-ltb _ _ w)
      | inr w ↦ simp (le-ltb _ _ w.0, lt-ltb _ _ w.1)
    ])

pub returns-in-Some : goal.returns-in-Some
returns-in-Some c =
    past_limits c.args.survey c.limits.result c.in_ok-limits.was c.limits.ensures (fault (Marks c.in-Some.strayed))
    (simp (le-ltb _ _ c.if-states-gt-STATES.false, le-ltb _ _ c.if-letters-gt-LETTERS.false, c.in-Some.is))

pub returns-then-states-start : goal.returns-then-states-start
returns-then-states-start c =
    past_limits c.args.survey c.limits.result c.in_ok-limits.was c.limits.ensures (fault Start)
    (simp (le-ltb _ _ c.if-states-gt-STATES.false, le-ltb _ _ c.if-letters-gt-LETTERS.false, c.in_default.is, le-leb _ _ c.if-states-start.true))

pub returns-in-Some-outside : goal.returns-in-Some-outside
returns-in-Some-outside c =
    past_limits c.args.survey c.limits.result c.in_ok-limits.was c.limits.ensures (fault (Outside c.in-Some-outside.outside))
    (simp (le-ltb _ _ c.if-states-gt-STATES.false, le-ltb _ _ c.if-letters-gt-LETTERS.false, c.in_default.is, lt-leb _ _ c.if-states-start.false, c.in-Some-outside.is))

pub returns-in-Some-unsorted : goal.returns-in-Some-unsorted
returns-in-Some-unsorted c =
    past_limits c.args.survey c.limits.result c.in_ok-limits.was c.limits.ensures (fault (Unsorted c.in-Some-unsorted.unsorted))
    (simp (le-ltb _ _ c.if-states-gt-STATES.false, le-ltb _ _ c.if-letters-gt-LETTERS.false, c.in_default.is, lt-leb _ _ c.if-states-start.false, c.in_default-outside.is, c.in-Some-unsorted.is))

pub returns-in_err-try_from : goal.returns-in_err-try_from
returns-in_err-try_from c =
    let p = err_from_is_err_and c.from_residual-in_err-try_from.result c.from_residual-in_err-try_from.ensures.1 in
    rw (p.1, p.2) (past_limits c.args.survey c.limits.result c.in_ok-limits.was c.limits.ensures (fault _)
    (simp (le-ltb _ _ c.if-states-gt-STATES.false, le-ltb _ _ c.if-letters-gt-LETTERS.false, c.in_default.is, lt-leb _ _ c.if-states-start.false, c.in_default-outside.is, c.in_default-unsorted.is, mode-refused c.args.survey.mode _ (sym c.in_err-try_from.was ∙ c.try_from.ensures))))

pub returns : goal.returns
returns c =
    past_limits c.args.survey c.limits.result c.in_ok-limits.was c.limits.ensures none
    (simp (le-ltb _ _ c.if-states-gt-STATES.false, le-ltb _ _ c.if-letters-gt-LETTERS.false, c.in_default.is, lt-leb _ _ c.if-states-start.false, c.in_default-outside.is, c.in_default-unsorted.is, mode-known c.args.survey.mode _ (sym c.in_ok-try_from.was ∙ c.try_from.ensures)))
