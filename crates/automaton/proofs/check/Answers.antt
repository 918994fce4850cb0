-- `automaton::check` meets its contract: past each test the answer is that of the lines of the table that are left.
use Rattle.std.proofs.Common.{◌≡◌, sym, ap, ◌∙◌, List, ℕ, ◌/◌, ◌%◌, ◌<◌, length, take, drop, None, Result, Ok, arith, eq-eqb, ne_eqb, le-leb}
use Rattle.std.proofs.lemmas.Bool.{lt-leb}
use Rattle.std.proofs.lemmas.Result.{err_from_is_err_and}
use Rattle.automaton.specs.Answer.{accepted, done, answered, Fault, first_fault, unless}
use Rattle.automaton.specs.Board.{Board, board_of, outside}
use Rattle.automaton.specs.Check.{high, faults, limited, checked}
use Rattle.automaton.specs.First.{first_below}
use Rattle.automaton.specs.declared.Automaton.{Automaton}
use Rattle.automaton.specs.declared.Refusal.{Refusal}
use Rattle.automaton.specs.declared.Refusal.TheVariants.{Marks, Outside, Unsorted}
use Rattle.automaton.proofs.Fault.{faults_passed, faults_stopped, fails_at-first, fails_at-none}
use Rattle.automaton.proofs.One.{checked-none, checked-fault}
use Rattle.automaton.proofs.check.Goals as goal

-- what `checked` still asks once the first lines of its table have found no fault
module _ (a : Automaton) (marks moves : List ℕ) where
  abbrev B : Board
  B = board_of a marks moves

  abbrev limit_lines : List Fault
  limit_lines = take 2 (faults B a.start)

  abbrev After : ℕ → Type 0
  After k = checked B a.start ≡ unless (first_fault (drop k (faults B a.start))) accepted

  past_limits : (r : Result (Unit {0}) Refusal) {x : Unit {0}} → r ≡ Ok x → answered done r ≡ limited a.states a.letters → After 2
  unfolding checked limited
  past_limits r e h = ap (λ f. unless f accepted) (faults_passed limit_lines (drop 2 (faults B a.start)) (checked-none _ r e h))

  past_marks : After 2 → length marks ≡ a.states → None ≡ first_below (high marks) (length marks) → After 3
  past_marks s l e = s ∙ simp (eq-eqb _ _ l, rw l at (fails_at-none Marks (high marks) (length marks) e))

  past_start : After 3 → a.start < a.states → After 4
  past_start s l = s ∙ simp (lt-leb a.states a.start l)

  past_bytes : After 4 → length moves % 3 ≡ 0 → After 5
  past_bytes s e = s ∙ simp (eq-eqb _ _ e)

  past_outside : After 5 → None ≡ first_below (outside a.states a.letters moves) (length moves / 3) → After 6
  past_outside s e = s ∙ simp (fails_at-none Outside _ _ e)

pub returns-in_err-limits : goal.returns-in_err-limits
unfolding checked limited
returns-in_err-limits c =
    let lines = limit_lines c.args.a c.args.marks.now c.args.moves.now in
    let e = checked-fault (first_fault lines) c.limits.result _ c.in_err-limits.was c.limits.ensures in
    let p = err_from_is_err_and c.from_residual.result c.from_residual.ensures.1 in
    rw (p.1, p.2) (ap (λ f. unless f accepted) (sym (faults_stopped lines (drop 2 (faults (board_of c.args.a c.args.marks.now c.args.moves.now) c.args.a.start)) _ e)))

pub returns-then-marks-states : goal.returns-then-marks-states
returns-then-marks-states c =
    let limits = past_limits c.args.a c.args.marks.now c.args.moves.now c.limits.result c.in_ok-limits.was c.limits.ensures in
    sym (limits ∙ simp (ne_eqb _ _ c.if-marks-states.true))

pub returns-in-Some : goal.returns-in-Some
returns-in-Some c =
    let limits = past_limits c.args.a c.args.marks.now c.args.moves.now c.limits.result c.in_ok-limits.was c.limits.ensures in
    sym (limits ∙ simp (eq-eqb _ _ c.if-marks-states.false, rw c.if-marks-states.false at (fails_at-first Marks (high c.args.marks.now) (length c.args.marks.now) c.in-Some.mark c.in-Some.ensures)))

pub returns-then-states-start : goal.returns-then-states-start
returns-then-states-start c =
    let limits = past_limits c.args.a c.args.marks.now c.args.moves.now c.limits.result c.in_ok-limits.was c.limits.ensures in
    let marks = past_marks c.args.a c.args.marks.now c.args.moves.now limits c.if-marks-states.false c.in_default.ensures in
    sym (marks ∙ simp (le-leb c.args.a.states c.args.a.start (omega (arith, c.if-states-start.true))))

pub returns-then-moves-ne0 : goal.returns-then-moves-ne0
returns-then-moves-ne0 c =
    let limits = past_limits c.args.a c.args.marks.now c.args.moves.now c.limits.result c.in_ok-limits.was c.limits.ensures in
    let marks = past_marks c.args.a c.args.marks.now c.args.moves.now limits c.if-marks-states.false c.in_default.ensures in
    let start = past_start c.args.a c.args.marks.now c.args.moves.now marks (omega (arith, c.if-states-start.false)) in
    sym (start ∙ simp (ne_eqb _ _ c.if-moves-ne0.true))

pub returns-in-Some-first_outside : goal.returns-in-Some-first_outside
returns-in-Some-first_outside c =
    let limits = past_limits c.args.a c.args.marks.now c.args.moves.now c.limits.result c.in_ok-limits.was c.limits.ensures in
    let marks = past_marks c.args.a c.args.marks.now c.args.moves.now limits c.if-marks-states.false c.in_default.ensures in
    let start = past_start c.args.a c.args.marks.now c.args.moves.now marks (omega (arith, c.if-states-start.false)) in
    let bytes = past_bytes c.args.a c.args.marks.now c.args.moves.now start c.if-moves-ne0.false in
    sym (bytes ∙ simp (fails_at-first Outside _ _ _ c.in-Some-first_outside.ensures))

pub returns-in-Some-first_unsorted : goal.returns-in-Some-first_unsorted
returns-in-Some-first_unsorted c =
    let limits = past_limits c.args.a c.args.marks.now c.args.moves.now c.limits.result c.in_ok-limits.was c.limits.ensures in
    let marks = past_marks c.args.a c.args.marks.now c.args.moves.now limits c.if-marks-states.false c.in_default.ensures in
    let start = past_start c.args.a c.args.marks.now c.args.moves.now marks (omega (arith, c.if-states-start.false)) in
    let bytes = past_bytes c.args.a c.args.marks.now c.args.moves.now start c.if-moves-ne0.false in
    let outside = past_outside c.args.a c.args.marks.now c.args.moves.now bytes c.in_default-first_outside.ensures in
    sym (outside ∙ simp (fails_at-first Unsorted _ _ _ c.in-Some-first_unsorted.ensures))

pub returns : goal.returns
returns c =
    let limits = past_limits c.args.a c.args.marks.now c.args.moves.now c.limits.result c.in_ok-limits.was c.limits.ensures in
    let marks = past_marks c.args.a c.args.marks.now c.args.moves.now limits c.if-marks-states.false c.in_default.ensures in
    let start = past_start c.args.a c.args.marks.now c.args.moves.now marks (omega (arith, c.if-states-start.false)) in
    let bytes = past_bytes c.args.a c.args.marks.now c.args.moves.now start c.if-moves-ne0.false in
    let outside = past_outside c.args.a c.args.marks.now c.args.moves.now bytes c.in_default-first_outside.ensures in
    sym (outside ∙ simp (fails_at-none Unsorted _ _ c.in_default-first_unsorted.ensures))
