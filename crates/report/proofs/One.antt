-- The promise of `report` leaves no choice: two results with the same number, place and values are the same.
use Rattle.std.proofs.Common.{◌≡◌, refl, ap, ℕ, Result}
use Rattle.automaton.specs.declared.Refusal.{Refusal}
use Rattle.automaton.specs.Answer.{answered, valued, value}
use Rattle.automaton.proofs.One.{one-answered}

pub one_reported : (r s : Result ℕ Refusal) → answered valued r ≡ answered valued s → r ≡ s
one_reported = one-answered valued (λ n. refl) (λ m n e. ap value e)
