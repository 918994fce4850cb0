-- `text::read` meets its contract: the survey finds what refusal 20 names or knows the text's numbers, and its judgements decide the rest.
use Rattle.std.proofs.Common.{None, ◌≡◌, ◌∙◌, List, Ok, Result, ℕ, ◌/◌, ◌≤◌, ap, arith, length, sym}
use Rattle.std.proofs.lemmas.Result.{err_from_is_err_and}
use Rattle.automaton.specs.declared.Refusal.{Refusal}
use Rattle.automaton.specs.declared.Refusal.TheVariants.{TooLong}
use Rattle.automaton.specs.Answer.{accepted, answered, done, first_fault, none, unless}
use Rattle.automaton.specs.Effect.{Effect}
use Rattle.automaton.proofs.One.{checked-none, checked-fault}
use Rattle.fields.specs.Bytes.{laid}
use Rattle.fields.proofs.Laid.{laid-whole}
use Rattle.lines.specs.Lines.{lines_of}
use Rattle.text.specs.declared.survey.Survey.{Survey}
use Rattle.text.specs.Answers.{of_reading}
use Rattle.text.specs.Calls.{Lent, before, lent_of, reading}
use Rattle.text.specs.Survey.{blank, judgements, surveyed}
use Rattle.text.specs.Text.{line_faults, marks as marks_of, moves as moves_of, text_fault}
use Rattle.text.proofs.Effects.{lines-fault, long-fault, reading-done, reading-few-marks, reading-few-moves, reading-refused}
use Rattle.text.proofs.Joined.{broken_fault, survey_of, whole-fault}
use Rattle.text.proofs.Sound.{moves-bytes, moves-three}
use Rattle.text.proofs.read.Goals.{then-marks-automaton-via-then-marks-automaton, then-marks-automaton-via-else-marks-automaton+then-moves-count}
use Rattle.text.proofs.read.Goals as goal

-- an effect told is the answer and the two buffers told
told : (text marks moves : List ℕ) (e : Effect Lent) → let r = reading text (lent_of marks moves) in r ≡ e
    → (e.answer ≡ r.answer) × (e.left.marks ≡ r.left.marks) × (e.left.moves ≡ r.left.moves)
told text marks moves e p = (sym (ap (λ (x : Effect Lent). x.answer) p), sym (ap (λ (x : Effect Lent). x.left.marks) p), sym (ap (λ (x : Effect Lent). x.left.moves) p))

-- a text that is no longer than the limit, surveyed to its end
module _ (text : List ℕ) (short : length text ≤ 32768) (s : Survey) (whole : surveyed None 1 blank (lines_of text) ≡ Ok s) where
  survey_is : s ≡ survey_of (lines_of text)
  survey_is = (whole-fault (lines_of text) s whole).1

  surveyed-fault : text_fault text ≡ first_fault (judgements s)
  surveyed-fault = lines-fault text short ∙ (whole-fault (lines_of text) s whole).0

  surveyed-fine : (r : Result (Unit {0}) Refusal) {x : Unit {0}} → r ≡ Ok x → answered done r ≡ unless (first_fault (judgements s)) accepted → text_fault text ≡ none
  surveyed-fine r e a = surveyed-fault ∙ checked-none (first_fault (judgements s)) r e a

  states_are : s.automaton.states ≡ (survey_of (lines_of text)).automaton.states
  states_are = ap (λ (s : Survey). s.automaton.states) survey_is

  moves_are : s.moves ≡ length (moves_of (lines_of text)) / 3
  moves_are = ap (λ (s : Survey). s.moves) survey_is

pub returns-then-text-gt-BYTES : goal.returns-then-text-gt-BYTES
returns-then-text-gt-BYTES c =
    let a = c.args in
    let all = told a.text.now a.marks.now a.moves.now _ (reading-refused a.text.now (lent_of a.marks.now a.moves.now) TooLong (long-fault a.text.now c.if-text-gt-BYTES.true)) in
    record { result_value = all.0; marks_after = all.1; moves_after = all.2 }

pub returns-in_err-survey : goal.returns-in_err-survey
returns-in_err-survey c =
    let a = c.args in
    let p = err_from_is_err_and c.from_residual.result c.from_residual.ensures.1 in
    let at = lines-fault a.text.now c.if-text-gt-BYTES.false ∙ broken_fault (lines_of a.text.now) _ (sym c.in_err-survey.ensures) in
    let all = told a.text.now a.marks.now a.moves.now _ (reading-refused a.text.now (lent_of a.marks.now a.moves.now) _ at) in
    rw (p.1, p.2) (record { result_value = all.0; marks_after = all.1; moves_after = all.2 })

pub returns-in_err-judge : goal.returns-in_err-judge
returns-in_err-judge c =
    let a = c.args in
    let s = c.in_ok-survey.survey in
    let p = err_from_is_err_and c.from_residual-in_err-judge.result c.from_residual-in_err-judge.ensures.1 in
    let at = surveyed-fault a.text.now c.if-text-gt-BYTES.false s (sym c.in_ok-survey.ensures) ∙ checked-fault (first_fault (judgements s)) c.judge.result _ c.in_err-judge.was c.judge.ensures in
    let all = told a.text.now a.marks.now a.moves.now _ (reading-refused a.text.now (lent_of a.marks.now a.moves.now) _ at) in
    rw (p.1, p.2) (record { result_value = all.0; marks_after = all.1; moves_after = all.2 })

pub returns-then-marks-automaton : goal.returns-then-marks-automaton
returns-then-marks-automaton c =
    let text = c.args.text.now in
    let x = lent_of c.args.marks.now c.args.moves.now in
    let s = c.in_ok-survey.survey in
    let short = c.if-text-gt-BYTES.false in
    let whole = sym c.in_ok-survey.ensures in
    let fine = surveyed-fine text short s whole c.judge.result c.in_ok-judge.was c.judge.ensures in
    let all = told text x.marks x.moves _ (elim c.then-marks-automaton.branch [
      | then-marks-automaton-via-then-marks-automaton w ↦ reading-few-marks text x fine (omega (arith, states_are text short s whole, w.if-marks-automaton.true))
      | then-marks-automaton-via-else-marks-automaton+then-moves-count w ↦ reading-few-moves text x fine (omega (arith, moves_are text short s whole, w.if-moves-count.true))
    ]) in
    record { result_value = all.0; marks_after = all.1; moves_after = all.2 }

pub returns : goal.returns
returns c =
    let text = c.args.text.now in
    let ls = lines_of text in
    let x = lent_of c.args.marks.now c.args.moves.now in
    let s = c.in_ok-survey.survey in
    let short = c.if-text-gt-BYTES.false in
    let whole = sym c.in_ok-survey.ensures in
    let fine = surveyed-fine text short s whole c.judge.result c.in_ok-judge.was c.judge.ensures in
    let states = states_are text short s whole in
    let moves = moves_are text short s whole in
    let few : s.automaton.states ≤ length x.marks = omega (arith, c.if-marks-automaton.false) in
    let room : s.moves ≤ length x.moves / 3 = c.if-moves-count.false in
    let all = told text x.marks x.moves _ (reading-done text x fine (omega (arith, few, states)) (omega (arith, room, moves))) in
    let lines_fine : first_fault (line_faults ls) ≡ none = sym (lines-fault text short) ∙ fine in
    let fits : length (moves_of ls) ≤ length x.moves = omega (arith, room, moves, moves-three ls) in
    record {
      result_value = ap (λ (s : Survey). of_reading (record { automaton = s.automaton; mode = s.mode; moves = s.moves })) (survey_is text short s whole) ∙ all.0;
      marks_after = c.write.ensures.marks_after ∙ ap (λ (n : ℕ). before (marks_of n ls) x.marks) states ∙ all.1;
      moves_after = c.write.ensures.moves_after ∙ ap (λ (l : List ℕ). laid 0 l x.moves) (moves-bytes ls lines_fine) ∙ laid-whole (moves_of ls) x.moves fits ∙ all.2;
    }
