-- When a test of equality is an equivalence.
use Rattle.std.specs.Prelude.{◌≡◌, Bool, true, ℕ, ◌<◌}

-- being equal is an equivalence on the numbers below n
pub record Equivalence (n : ℕ) (e : ℕ → ℕ → Bool) : Type 0 where
  pub same : (q : ℕ) → q < n → e q q ≡ true
  pub back : (q r : ℕ) → q < n → r < n → e q r ≡ true → e r q ≡ true
  pub on : (q r s : ℕ) → q < n → r < n → s < n → e q r ≡ true → e r s ≡ true → e q s ≡ true
