-- The promise leaves no choice: two results with the same number, place and values are the same.
use Rattle.std.proofs.Common.{◌≡◌, refl, ap, ℕ, Result, get_or}
use Rattle.automaton.specs.Answer.{Answer, answered}
use Rattle.automaton.specs.declared.Refusal.{Refusal}
use Rattle.automaton.proofs.One.{one-answered}
use Rattle.quotient.specs.Answers.{merged}
use Rattle.quotient.specs.declared.Counts.{Counts}

one-counts : (x y : Counts) → merged x ≡ merged y → x ≡ y
one-counts x y e = λ i. record { classes = value 0 i; moves = value 1 i; start = value 2 i }
  where
    value : (k : ℕ) → get_or (merged x).values k 0 ≡ get_or (merged y).values k 0
    value k = ap (λ (a : Answer). get_or a.values k 0) e

pub one_merged : (r s : Result Counts Refusal) → answered merged r ≡ answered merged s → r ≡ s
one_merged = one-answered merged (λ x. refl) one-counts
