-- The promises leave no choice: two results with the same number, place and values are the same.
use Rattle.std.proofs.Common.{◌≡◌, refl, ap, Bool, true, false, ℕ, Option, Some, None, Result, arith}
use Rattle.automaton.specs.Answer.{Answer, answered, done, valued, value}
use Rattle.automaton.specs.declared.Refusal.{Refusal}
use Rattle.automaton.proofs.One.{one-answered, one_result}
use Rattle.table.specs.Answers.{rose, found}

pub one-cleared : (r s : Result (Unit {0}) Refusal) → answered done r ≡ answered done s → r ≡ s
one-cleared = one_result

pub one-lifted : (r s : Result Bool Refusal) → answered rose r ≡ answered rose s → r ≡ s
one-lifted = one-answered rose (λ b. refl) same
  where
    same : (b c : Bool) → rose b ≡ rose c → b ≡ c
    same true true e = refl
    same true false e = absurd (let z : ◌≡◌ {A = ℕ} 1 0 = ap value e in omega arith)
    same false true e = absurd (let z : ◌≡◌ {A = ℕ} 0 1 = ap value e in omega arith)
    same false false e = refl

pub one-rested : (r s : Result (Option ℕ) Refusal) → answered found r ≡ answered found s → r ≡ s
one-rested = one-answered found accepted same
  where
    accepted : (o : Option ℕ) → (found o).number ≡ 0
    accepted None = refl
    accepted (Some v) = refl

    same : (o p : Option ℕ) → found o ≡ found p → o ≡ p
    same None None e = refl
    same None (Some w) e = absurd (let z : ◌≡◌ {A = ℕ} 1 0 = ap value e in omega arith)
    same (Some v) None e = absurd (let z : ◌≡◌ {A = ℕ} 0 1 = ap value e in omega arith)
    same (Some v) (Some w) e = ap Some (ap (λ (a : Answer). a.place) e)

pub one-settled : (r s : Result ℕ Refusal) → answered valued r ≡ answered valued s → r ≡ s
one-settled = one-answered valued (λ n. refl) (λ n m e. ap value e)
