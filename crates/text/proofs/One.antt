-- The promise of `read` leaves no choice: two results with the same number, place and values are the same.
use Rattle.std.proofs.Common.{◌≡◌, refl, ap, ℕ, get_or, Result}
use Rattle.automaton.specs.declared.Refusal.{Refusal}
use Rattle.automaton.specs.Answer.{Answer, answered}
use Rattle.automaton.proofs.One.{one-answered}
use Rattle.text.specs.Answers.{of_reading}
use Rattle.text.specs.declared.Reading.{Reading}

-- what values stand for
value : Answer → ℕ → ℕ
value a i = get_or a.values i 0

read_by : Answer → Reading
read_by a = record { automaton = record { states = value a 0; letters = value a 1; start = value a 2 }; mode = value a 3; moves = value a 4 }

one-told : (r s : Reading) → of_reading r ≡ of_reading s → r ≡ s
unfolding read_by value
one-told r s e = ap read_by e

pub one-reading : (r s : Result Reading Refusal) → answered of_reading r ≡ answered of_reading s → r ≡ s
one-reading = one-answered of_reading (λ r. refl) one-told
