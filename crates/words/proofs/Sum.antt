-- The members of a set counted.
use Rattle.std.proofs.Common.{◌≡◌, refl, sym, ap, ◌∙◌, ℕ, zero, suc, ◌+◌, ◌/◌, ◌%◌, ◌^◌, ◌<◌, pow-suc, arith}
use lib.Count.{ones, ones_step}
use Rattle.words.specs.Sum.{sum}
use Rattle.words.specs.Word.{dig}

-- the first taken out
sum_front : (f : ℕ → ℕ) (n : ℕ) → sum f (suc n) ≡ f 0 + sum (λ i. f (suc i)) n
unfolding sum
sum_front f zero = omega arith
sum_front f (suc n) = omega (arith, sum_front f n)

-- the members of a set of numbers below k
pub ones-sum : (k r : ℕ) → r < 2 ^ k → ones r ≡ sum (dig r) k
unfolding dig ones sum
ones-sum zero r h = let z : r ≡ 0 = omega arith in rw z refl
ones-sum (suc k) r h = ones_step r ∙ ap (λ (x : ℕ). r % 2 + x) (ones-sum k (r / 2) (omega (arith, pow-suc 2 k))) ∙ sym (sum_front (dig r) k)
