-- `judge` meets its contract: what `limits` answered decides the first two lines, and each test one line more.
use Rattle.std.proofs.Common.{◌≡◌, sym, ap, ◌∙◌, List, ℕ, ◌≤◌, take, drop, lt-ltb, le-ltb, le-leb, inl, inr, Result, Ok, arith}
use Rattle.std.proofs.lemmas.Bool.{lt-leb}
use Rattle.std.proofs.lemmas.Result.{err_from_is_err_and}
use Rattle.automaton.specs.declared.Automaton.{Automaton}
use Rattle.automaton.specs.declared.Refusal.{Refusal}
use Rattle.automaton.specs.Answer.{accepted, answered, done, Fault, first_fault, unless}
use Rattle.automaton.specs.Check.{limited}
use Rattle.automaton.proofs.Fault.{faults_passed, faults_stopped}
use Rattle.automaton.proofs.One.{checked-none, checked-fault}
use Rattle.hanoi.specs.declared.Limits.{Limits}
use Rattle.hanoi.specs.Calls.{faults_of}
use Rattle.hanoi.proofs.judge.Goals as goal

module _ (b : Limits) (a : Automaton) where
  -- the lines of refusals 1 and 2, and those after them
  abbrev limit-lines : List Fault
  limit-lines = take 2 (faults_of b a)

  abbrev more-lines : List Fault
  more-lines = drop 2 (faults_of b a)

  -- the lines before number i find nothing, so those from there on decide
  abbrev Decided : (i : ℕ) → Type 0
  Decided i = unless (first_fault (drop i (faults_of b a))) accepted ≡ unless (first_fault (faults_of b a)) accepted

  past-limits : (r : Result (Unit {0}) Refusal) {x : Unit {0}} → r ≡ Ok x → answered done r ≡ limited a.states a.letters → Decided 2
  unfolding limited
  past-limits r e f =
      let within = checked-none (first_fault limit-lines) r e f in
      ap (λ f. unless f accepted) (sym (faults_passed limit-lines more-lines within))

  past-program-limits : a.states ≤ b.states → a.letters ≤ b.letters → Decided 2 → Decided 3
  past-program-limits n k d = (simp (le-ltb _ _ n, le-ltb _ _ k)) ∙ d

pub returns-in_err-limits : goal.returns-in_err-limits
unfolding limited
returns-in_err-limits c =
    let b = c.args.limits in
    let a = c.args.a in
    let e = checked-fault (first_fault (limit-lines b a)) c.limits.result _ c.in_err-limits.was c.limits.ensures in
    let p = err_from_is_err_and c.from_residual.result c.from_residual.ensures.1 in
    rw (p.1, p.2) (ap (λ f. unless f accepted) (sym (faults_stopped (limit-lines b a) (more-lines b a) _ e)))

pub returns-then-limits-states : goal.returns-then-limits-states
returns-then-limits-states c =
    elim c.then-limits-states.either [
      | inl w ↦ simp (lt-ltb _ _ w)
      | inr w ↦ simp (le-ltb _ _ w.0, lt-ltb _ _ w.1)
    ] ∙ past-limits c.args.limits c.args.a c.limits.result c.in_ok-limits.was c.limits.ensures

pub returns-then-states-start : goal.returns-then-states-start
returns-then-states-start c =
    (simp (le-leb c.args.a.states c.args.a.start (omega arith)))
    ∙ past-program-limits c.args.limits c.args.a c.if-limits-states.false c.if-limits-letters.false (past-limits c.args.limits c.args.a c.limits.result c.in_ok-limits.was c.limits.ensures)

pub returns : goal.returns
returns c =
    (simp (lt-leb c.args.a.states c.args.a.start (omega arith)))
    ∙ past-program-limits c.args.limits c.args.a c.if-limits-states.false c.if-limits-letters.false (past-limits c.args.limits c.args.a c.limits.result c.in_ok-limits.was c.limits.ensures)
