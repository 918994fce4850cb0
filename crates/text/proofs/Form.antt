-- The survey meets the first line of wrong form or order, which refusal 20 names, or takes all lines.
use Rattle.std.proofs.Common.{◌≡◌, refl, sym, ap, ◌∙◌, Bool, true, false, ◌&&◌, ◌||◌, true≢false, List, [], ◌∷◌, ℕ, zero, suc, ◌+◌, ◌≤◌, ◌<◌, arith, ltb-true, ltb-false, le-ltb, ne_eqb, eqb, ltb, length, Option, Some, None, Result, Ok, Err}
use mathlib.Core.Bool.{false≢true}
use borrow.Author.Tests.{not-true, not-false}
use Rattle.automaton.specs.declared.Refusal.TheVariants.{LineForm}
use Rattle.automaton.specs.Answer.{none, fault}
use Rattle.automaton.specs.First.{first}
use Rattle.automaton.proofs.First.{Lowest, first-lowest, first-none}
use Rattle.lines.specs.declared.line.Line.{Line}
use Rattle.lines.specs.declared.line.Line.TheVariants as line
use Rattle.text.specs.declared.survey.Survey.{Survey}
use Rattle.automaton.specs.declared.Refusal.{Refusal}
use Rattle.text.specs.Order.{order, stands, misplaced_after, misplaced, form_fault}
use Rattle.text.specs.Survey.{blank, taken, surveyed}

-- what is known after all lines
abbrev pub taken_all : Survey → List (Option Line) → Survey
taken_all s [] = s
taken_all s (None ∷ ls) = taken_all s ls
taken_all s (Some l ∷ ls) = taken_all (taken s l) ls

-- none of the lines is an automaton line or of wrong form
abbrev pub Following : List (Option Line) → Type 0
Following [] = Unit
Following (None ∷ ls) = ⊥
Following (Some l ∷ ls) = (1 < order l) × Following ls

-- one line on
misplaced-next : (b l : Option Line) (ls : List (Option Line)) (j : ℕ) → misplaced_after b (l ∷ ls) (suc j) ≡ misplaced_after l ls j
misplaced-next b l ls zero = refl
misplaced-next b l ls (suc j) = refl

module _ (b : Option Line) (i : ℕ) (s : Survey) (l : Line) (ls : List (Option Line)) where
  passed : stands b l ≡ true → surveyed b i s (Some l ∷ ls) ≡ surveyed (Some l) (suc i) (taken s l) ls
  unfolding surveyed
  passed e = simp e

  stopped : stands b l ≡ false → surveyed b i s (Some l ∷ ls) ≡ Err (LineForm i)
  unfolding surveyed
  stopped e = simp e

formless : (b : Option Line) (i : ℕ) (s : Survey) (ls : List (Option Line)) → surveyed b i s (None ∷ ls) ≡ Err (LineForm i)
unfolding surveyed
formless b i s ls = refl

broken_at : (i j : ℕ) → i ≡ j → ◌≡◌ {A = Result Survey Refusal} (Err (LineForm i)) (Err (LineForm j))
broken_at i j e = ap (λ (n : ℕ). Err (LineForm n)) e

broken : (b : Option Line) (i : ℕ) (s : Survey) (ls : List (Option Line)) (w : ℕ) → w < length ls
    → ((j : ℕ) → j < w → misplaced_after b ls j ≡ false) → misplaced_after b ls w ≡ true → surveyed b i s ls ≡ Err (LineForm (i + w))
broken b i s [] w h fine wrong = absurd (omega arith)
broken b i s (None ∷ ls) zero h fine wrong = formless b i s ls ∙ broken_at i (i + 0) (omega arith)
broken b i s (None ∷ ls) (suc w) h fine wrong = absurd (true≢false (fine 0 (omega arith)))
broken b i s (Some l ∷ ls) zero h fine wrong = stopped b i s l ls (not-true (stands b l) wrong) ∙ broken_at i (i + 0) (omega arith)
broken b i s (Some l ∷ ls) (suc w) h fine wrong =
    passed b i s l ls (not-false (stands b l) (fine 0 (omega arith))) ∙
    broken (Some l) (suc i) (taken s l) ls w (omega arith)
    (λ j k. sym (misplaced-next b (Some l) ls j) ∙ fine (suc j) (omega arith))
    (sym (misplaced-next b (Some l) ls w) ∙ wrong) ∙
    broken_at (suc i + w) (i + suc w) (omega arith)

first-rank : (l : Line) → 0 < order l
first-rank (line.Automaton n k q) = omega arith
first-rank (line.Mode m) = omega arith
first-rank (line.Accept q) = omega arith
first-rank (line.Move p a q) = omega arith

-- a rank that is not above the one before, of a line that may not be many
unranked : (g x : ℕ) → x ≤ g → (u : Bool) → (ltb g x || (u && false)) ≡ true → ⊥
unranked g x h true e = true≢false (sym e ∙ simp (le-ltb g x h))
unranked g x h false e = true≢false (sym e ∙ simp (le-ltb g x h))

-- a line that stands after another has a rank above the first
above-first : (b l : Line) → stands (Some b) l ≡ true → 1 < order l
above-first b (line.Automaton n k q) e = absurd (unranked (order b) 1 (omega (arith, first-rank b)) (eqb (order b) 1) e)
above-first b (line.Mode m) e = omega arith
above-first b (line.Accept q) e = omega arith
above-first b (line.Move x a q) e = omega arith

whole : (b : Line) (i : ℕ) (s : Survey) (ls : List (Option Line)) → ((j : ℕ) → j < length ls → misplaced_after (Some b) ls j ≡ false)
    → (surveyed (Some b) i s ls ≡ Ok (taken_all s ls)) × Following ls
unfolding surveyed
whole b i s [] fine = (refl, tt)
whole b i s (None ∷ ls) fine = absurd (true≢false (fine 0 (omega arith)))
whole b i s (Some l ∷ ls) fine =
    let stood = not-false (stands (Some b) l) (fine 0 (omega arith)) in
    let rest = whole l (suc i) (taken s l) ls (λ j k. sym (misplaced-next (Some b) (Some l) ls j) ∙ fine (suc j) (omega arith)) in
    (passed (Some b) i s l ls stood ∙ rest.0, (above-first b l stood, rest.1))

-- a first line that may stand is an automaton line
pub data Headed : List (Option Line) → Type 0 where
  headed : (n k q : ℕ) (ls : List (Option Line)) → Following ls → Headed (Some (line.Automaton n k q) ∷ ls)

first-line : (l : Line) (ls : List (Option Line)) → eqb (order l) 1 ≡ true → Following ls → Headed (Some l ∷ ls)
first-line (line.Automaton n k q) ls e f = headed n k q ls f
first-line (line.Mode m) ls e f = absurd (false≢true e)
first-line (line.Accept q) ls e f = absurd (false≢true e)
first-line (line.Move p a q) ls e f = absurd (false≢true e)

-- of no lines, or of lines of which none is misplaced
whole_text : (ls : List (Option Line)) → 0 < length ls → ((j : ℕ) → j < length ls → misplaced ls j ≡ false)
    → (surveyed None 1 blank ls ≡ Ok (taken_all blank ls)) × Headed ls
whole_text [] h fine = absurd (omega arith)
whole_text (None ∷ ls) h fine = absurd (true≢false (fine 0 (omega arith)))
whole_text (Some l ∷ ls) h fine =
    let stood : eqb (order l) 1 ≡ true = not-false (eqb (order l) 1) (fine 0 (omega arith)) in
    let rest = whole l 2 (taken blank l) ls (λ j k. sym (misplaced-next None (Some l) ls j) ∙ fine (suc j) (omega arith)) in
    (passed None 1 blank l ls stood ∙ rest.0, first-line l ls stood rest.1)

-- what the survey of a text comes to, and what refusal 20 says of it
pub data Judged : List (Option Line) → Type 0 where
  wrong : (ls : List (Option Line)) (i : ℕ) → form_fault ls ≡ fault (LineForm i) → surveyed None 1 blank ls ≡ Err (LineForm i) → Judged ls
  right : (ls : List (Option Line)) → form_fault ls ≡ none → surveyed None 1 blank ls ≡ Ok (taken_all blank ls) → Headed ls → Judged ls

pub judged : (ls : List (Option Line)) → Judged ls
unfolding surveyed
judged [] = wrong [] 1 refl refl
judged (l ∷ ls) = go (ltb w c) refl
  where
    c : ℕ
    c = suc (length ls)

    w : ℕ
    w = first (misplaced (l ∷ ls)) 0 c

    low : Lowest (misplaced (l ∷ ls)) 0 c w
    low = first-lowest (misplaced (l ∷ ls)) 0 c

    some-lines : eqb (length (l ∷ ls)) 0 ≡ false
    some-lines = ne_eqb (suc (length ls)) 0 (λ z. omega arith)

    go : (t : Bool) → ltb w c ≡ t → Judged (l ∷ ls)
    go true e =
        let inside : w < c = ltb-true w c e in
        wrong (l ∷ ls) (suc w)
        (simp (some-lines, e))
        (broken None 1 blank (l ∷ ls) w inside (λ j k. low.before j (omega arith) k) (low.here (omega arith)) ∙ broken_at (1 + w) (suc w) (omega arith))
    go false e =
        let past : w ≡ 0 + c = omega (arith, low.most, ltb-false w c e) in
        let fine = whole_text (l ∷ ls) (omega arith) (λ j k. (first-none (misplaced (l ∷ ls)) 0 c).0 past j (omega arith) (omega arith)) in
        right (l ∷ ls) (simp (some-lines, e)) fine.0 fine.1
