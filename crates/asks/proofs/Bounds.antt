-- Products of numbers within the limits: what positions are counted by is small.
use Prim.Native.Nat.{ℕ, suc, ◌+◌, ◌*◌, ◌≤◌, ◌<◌}
use native.Mathlib.Nat.{mul-le-mul, mul-le-mul_right, suc-mul}
use native.Mathlib.Omega.{arith}
use Rattle.automaton.specs.Limits.{most_letters, most_states}

-- the keys of a state are among those of all
pub row_within : (n k q : ℕ) → q < n → q * k + k ≤ n * k
row_within n k q h = rw (suc-mul q k) at (mul-le-mul_right {m = suc q} {n = n} k (omega arith))

module _ (n k : ℕ) (few : n ≤ most_states) (few_letters : k ≤ most_letters) where
  pub row-most : (q : ℕ) → q ≤ n → q * k ≤ 1024
  row-most q h = mul-le-mul {n₂ = 64} {m₂ = 16} (omega arith) few_letters

  pub square_most : (q : ℕ) → q ≤ n → q * n ≤ 4096
  square_most q h = mul-le-mul {n₂ = 64} {m₂ = 64} (omega arith) few

  pub layer-most : (b : ℕ) → b < 2 → b * (n * n) ≤ 4096
  layer-most b h = mul-le-mul {n₂ = 1} {m₂ = 4096} (omega arith) (square_most n (omega arith))

  pub block-most : (b : ℕ) → b < 2 → b * (n * n) * k ≤ 65536
  block-most b h = mul-le-mul {n₂ = 4096} {m₂ = 16} (layer-most b h) few_letters
