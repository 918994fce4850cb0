-- Sums, for counts.
use Rattle.std.specs.Prelude.{ℕ, zero, suc, ◌+◌}

-- f 0 + f 1 + .. + f (n - 1)
unfoldable pub sum : (f : ℕ → ℕ) (n : ℕ) → ℕ
sum f zero = 0
sum f (suc n) = sum f n + f n
