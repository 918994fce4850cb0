-- "First `automaton` ..; then optionally `mode` ..; then `accept` ..; then `move`": the order of the lines, and refusal 20.
use Rattle.std.specs.Prelude.{Bool, true, false, ◌&&◌, ◌||◌, not, cond, List, ℕ, zero, suc, eqb, ltb, length, get_or, Option, Some, None}
use Rattle.automaton.specs.declared.Refusal.TheVariants.{LineForm}
use Rattle.automaton.specs.Answer.{Fault, fault, fails_at}
use Rattle.lines.specs.declared.line.Line.{Line}
use Rattle.lines.specs.declared.line.Line.TheVariants as line

-- a line's rank in the order of the kinds
abbrev pub order : Line → ℕ
order (line.Automaton n k s) = 1
order (line.Mode m) = 2
order (line.Accept q) = 3
order (line.Move p a q) = 4

-- accept and move lines may be many
abbrev pub repeats : Line → Bool
repeats (line.Automaton n k s) = false
repeats (line.Mode m) = false
repeats (line.Accept q) = true
repeats (line.Move p a q) = true

-- may a line stand after the one before? The first stands after none.
abbrev pub stands : (before : Option Line) → Line → Bool
stands None l = eqb (order l) 1
stands (Some b) l = ltb (order b) (order l) || (eqb (order b) (order l) && repeats l)

-- one of no form that a line may have stands nowhere
abbrev pub fits : (before line : Option Line) → Bool
fits b None = false
fits b (Some l) = stands b l

-- line i (from 0) of those that come after another is of wrong form or order
abbrev pub misplaced_after : (before : Option Line) → List (Option Line) → ℕ → Bool
misplaced_after b ls zero = not (fits b (get_or ls 0 None))
misplaced_after b ls (suc i) = not (fits (get_or ls i None) (get_or ls (suc i) None))

abbrev pub misplaced : List (Option Line) → ℕ → Bool
misplaced = misplaced_after None

-- 20: "a line of wrong form or order, or empty input (place: line from 1; 1 if empty)"
abbrev pub form_fault : List (Option Line) → Fault
form_fault ls = cond (eqb (length ls) 0) (fault (LineForm 1)) (fails_at (λ i. LineForm (suc i)) (misplaced ls) (length ls))
