-- The place of a text's refusal is one of its lines: it is small.
use Rattle.std.proofs.Common.{◌≡◌, refl, sym, ap, ◌∙◌, Bool, true, false, ◌||◌, cond, List, [], ◌∷◌, ℕ, zero, suc, ◌+◌, ◌*◌, ◌/◌, ◌≤◌, ◌<◌, arith, eqb, ltb, leb, length, drop, Option, Some, None}
use Rattle.automaton.specs.declared.Refusal.{Refusal}
use Rattle.automaton.specs.declared.Refusal.TheVariants.{States, Letters, Marks, Start, Outside, Unsorted, ModeNumber, LineForm, ProgramLimits, TooLong}
use Rattle.automaton.specs.Answer.{place_of, fault, fails_at, first_fault}
use Rattle.automaton.specs.Board.{outside, unsorted}
use Rattle.automaton.specs.Limits.{most_states, most_letters, name_of, is_unknown}
use Rattle.automaton.proofs.Fault.{UpTo, fault-to, fails-to, fails_at-to, table_to}
use Rattle.lines.specs.declared.line.Line.{Line}
use Rattle.lines.specs.declared.line.Line.TheVariants as line
use Rattle.fields.proofs.Tests.{by_test}
use Rattle.lines.specs.Lines.{lines_of}
use Rattle.lines.specs.Reader.{read_at}
use Rattle.lines.proofs.Pieces.{lines_next, lines_end, past_more}
use Rattle.text.specs.Order.{misplaced, form_fault}
use Rattle.text.specs.Text.{head, mode, accepts, moves, stray, program_states, program_letters, program_bytes, line_faults, text_fault}
use Rattle.text.proofs.Effects.{long-fault, lines-fault}

-- ---- no more lines than bytes

lines_from : (fuel : ℕ) (s : List ℕ) (at : ℕ) → length s ≤ at + fuel → length (lines_of (drop at s)) ≤ fuel
lines_from zero s at h = let e : length (lines_of (drop at s)) ≡ 0 = ap length (lines_end s at (omega arith)) in omega arith
lines_from (suc f) s at h =
    by_test at (length s) (ltb at (length s)) refl
    (λ (inside : at < length s).
    let past = (read_at s at).past in
    let e : length (lines_of (drop at s)) ≡ suc (length (lines_of (drop past s))) = ap length (lines_next s at inside) in
    omega (arith, e, lines_from f s past (omega (arith, past_more s at inside))))
    (λ (end : length s ≤ at).
    let e : length (lines_of (drop at s)) ≡ 0 = ap length (lines_end s at end) in
    omega arith)

lines-few : (s : List ℕ) → length (lines_of s) ≤ length s
lines-few s = lines_from (length s) s 0 (omega arith)

accepts-counted : (ls : List (Option Line)) → length (accepts ls) ≤ length ls
accepts-counted [] = omega arith
accepts-counted (Some (line.Automaton n k q) ∷ ls) = omega (arith, accepts-counted ls)
accepts-counted (Some (line.Mode m) ∷ ls) = omega (arith, accepts-counted ls)
accepts-counted (Some (line.Accept q) ∷ ls) = omega (arith, accepts-counted ls)
accepts-counted (Some (line.Move p a q) ∷ ls) = omega (arith, accepts-counted ls)
accepts-counted (None ∷ ls) = omega (arith, accepts-counted ls)

moves-counted : (ls : List (Option Line)) → length (moves ls) ≤ length ls * 3
moves-counted [] = omega arith
moves-counted (Some (line.Automaton n k q) ∷ ls) = omega (arith, moves-counted ls)
moves-counted (Some (line.Mode m) ∷ ls) = omega (arith, moves-counted ls)
moves-counted (Some (line.Accept q) ∷ ls) = omega (arith, moves-counted ls)
moves-counted (Some (line.Move p a q) ∷ ls) = omega (arith, moves-counted ls)
moves-counted (None ∷ ls) = omega (arith, moves-counted ls)

-- ---- the places

form_to : (ls : List (Option Line)) (k : ℕ) → length ls < k → UpTo place_of k (form_fault ls)
form_to ls k h = either (eqb (length ls) 0)
  where
    placed : UpTo place_of k (fails_at (λ i. LineForm (suc i)) (misplaced ls) (length ls))
    placed = fails_at-to place_of k (λ i. LineForm (suc i)) (misplaced ls) (length ls) (λ i l. omega arith)

    either : (b : Bool) → UpTo place_of k (cond b (fault (LineForm 1)) (fails_at (λ i. LineForm (suc i)) (misplaced ls) (length ls)))
    either true = fault-to place_of k (LineForm 1) (omega arith)
    either false = placed

lines-to : (ls : List (Option Line)) (k : ℕ) → length ls < k → UpTo place_of k (first_fault (line_faults ls))
lines-to ls k h =
    let a = head ls in
    table_to place_of k (line_faults ls) (
      form_to ls k h,
      (
        fails-to place_of k (ltb a.states 1 || ltb most_states a.states) States (omega arith),
        (
          fails-to place_of k (ltb a.letters 1 || ltb most_letters a.letters) Letters (omega arith),
          (
            fails-to place_of k (ltb program_states a.states || ltb program_letters a.letters) ProgramLimits (omega arith),
            (
              fails_at-to place_of k Marks (stray a.states (accepts ls)) (length (accepts ls)) (λ i l. omega (arith, accepts-counted ls)),
              (
                fails-to place_of k (leb a.states a.start) Start (omega arith),
                (
                  fails_at-to place_of k Outside (outside a.states a.letters (moves ls)) (length (moves ls) / 3) (λ i l. omega (arith, moves-counted ls)),
                  (
                    fails_at-to place_of k Unsorted (unsorted (moves ls)) (length (moves ls) / 3) (λ i l. omega (arith, moves-counted ls)),
                    (fails-to place_of k (is_unknown (name_of (mode ls))) ModeNumber (omega arith), tt),
                  ),
                ),
              ),
            ),
          ),
        ),
      ),
    )

pub text_place : (text : List ℕ) (r : Refusal) → text_fault text ≡ fault r → place_of r ≤ 32769
text_place text r e =
    by_test program_bytes (length text) (ltb program_bytes (length text)) refl
    (λ (long : program_bytes < length text). fault-to place_of 32769 TooLong (omega arith) r (sym (long-fault text long) ∙ e))
    (λ (short : length text ≤ program_bytes). lines-to (lines_of text) 32769 (omega (arith, lines-few text)) r (sym (lines-fault text short) ∙ e))
