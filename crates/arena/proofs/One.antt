-- The promises leave no choice: two results with the same number, place and values are the same.
use Rattle.std.proofs.Common.{◌≡◌, refl, ap, ℕ, Result}
use Rattle.automaton.specs.Answer.{answered, valued, value}
use Rattle.automaton.specs.declared.Refusal.{Refusal}
use Rattle.automaton.proofs.One.{one-answered}

pub one-counted : (r s : Result ℕ Refusal) → answered valued r ≡ answered valued s → r ≡ s
one-counted = one-answered valued (λ x. refl) (λ x y e. ap value e)
