-- The survey decides what the definitions say: refusal 20, or the numbers of the text and the refusals behind it.
use Rattle.std.proofs.Common.{◌≡◌, refl, sym, ap, ◌∙◌, List, [], ◌∷◌, ℕ, Bool, true, false, cond, ltb, Option, Some, None, Result, Ok, Err}
use Rattle.automaton.specs.declared.Refusal.{Refusal}
use Rattle.automaton.specs.declared.Refusal.TheVariants.{LineForm}
use Rattle.automaton.specs.Answer.{Fault, fails, fails_at, fault, first_fault}
use Rattle.automaton.specs.First.{first, first_below}
use Rattle.lines.specs.declared.line.Line.{Line}
use Rattle.lines.specs.declared.line.Line.TheVariants as line
use Rattle.text.specs.declared.survey.Survey.{Survey}
use Rattle.text.specs.Order.{form_fault}
use Rattle.text.specs.Survey.{blank, fails_with, judgements, surveyed, taken}
use Rattle.text.specs.Text.{head, mode, accepts, moves, line_faults}
use Rattle.text.proofs.Form.{taken_all, Headed, headed, Judged, wrong, right, judged}
use Rattle.text.proofs.Known.{known, all_known}

-- what the definitions say of the lines, as a survey
abbrev pub survey_of : List (Option Line) → Survey
survey_of ls = known (head ls) (mode ls) (accepts ls) (moves ls)

known-blank : (n k q : ℕ) → taken blank (line.Automaton n k q) ≡ known (record { states = n; letters = k; start = q }) 1 [] []
unfolding first
known-blank n k q = refl

taken-all : (ls : List (Option Line)) → Headed ls → taken_all blank ls ≡ survey_of ls
taken-all _ (headed n k q ls f) =
    ap (λ (s : Survey). taken_all s ls) (known-blank n k q) ∙ all_known (record { states = n; letters = k; start = q }) 1 [] [] ls refl f

-- a refusal at the first at fault is that of the definition
fails_with-first : (r : ℕ → Refusal) (p : ℕ → Bool) (c : ℕ) → fails_with r (first_below p c) ≡ fails_at r p c
fails_with-first r p c = go (ltb (first p 0 c) c)
  where
    go : (t : Bool) → fails_with r (cond t (Some (first p 0 c)) None) ≡ fails t (r (first p 0 c))
    go true = refl
    go false = refl

faults-judged : (ls : List (Option Line)) → line_faults ls ≡ form_fault ls ∷ judgements (survey_of ls)
faults-judged ls = simp fails_with-first

pub broken_fault : (ls : List (Option Line)) (r : Refusal) → surveyed None 1 blank ls ≡ Err r → first_fault (line_faults ls) ≡ fault r
broken_fault ls r e = go (judged ls)
  where
    go : Judged ls → first_fault (line_faults ls) ≡ fault r
    go (wrong _ i f b) = ap first_fault (faults-judged ls) ∙ ap (λ (x : Fault). first_fault (x ∷ judgements (survey_of ls))) f ∙ cc
    go (right _ f b h) = let z : ◌≡◌ {A = Result Survey Refusal} (Err r) (Ok (taken_all blank ls)) = sym e ∙ b in cc

pub whole-fault : (ls : List (Option Line)) (s : Survey) → surveyed None 1 blank ls ≡ Ok s → (first_fault (line_faults ls) ≡ first_fault (judgements s)) × (s ≡ survey_of ls)
whole-fault ls s e = go (judged ls)
  where
    go : Judged ls → (first_fault (line_faults ls) ≡ first_fault (judgements s)) × (s ≡ survey_of ls)
    go (wrong _ i f b) = let z : ◌≡◌ {A = Result Survey Refusal} (Ok s) (Err (LineForm i)) = sym e ∙ b in cc
    go (right _ f b h) =
        let was : ◌≡◌ {A = Result Survey Refusal} (Ok s) (Ok (taken_all blank ls)) = sym e ∙ b in
        let same : s ≡ survey_of ls = (let t : s ≡ taken_all blank ls = cc in t) ∙ taken-all ls h in
        (ap first_fault (faults-judged ls) ∙ ap (λ (x : Fault). first_fault (x ∷ judgements (survey_of ls))) f ∙ ap (λ (x : Survey). first_fault (judgements x)) (sym same), same)
