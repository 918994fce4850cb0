-- The document's limits: "At the limits P is 139,264"; T is "at most 4,097" in mode 2 and "at most 1,025" in mode 3.
use mathlib.Core.Path.{◌≡◌}
use Prim.Native.Nat.{ℕ, ◌+◌, ◌*◌, ◌-◌, ◌≤◌}
use native.Mathlib.Nat.{mul-add, add-mul, mul_comm, mul-le-mul}
use native.Mathlib.Omega.{arith}
use native.Mathlib.Decide.{dec_le}
use Rattle.automaton.specs.declared.Mode.{Mode}
use Rattle.automaton.specs.declared.Mode.TheVariants.{Ordinary, Direct, Delayed, Fair}
use Rattle.automaton.specs.Board.{Board, Formed}
use Rattle.automaton.specs.Limits.{most_states, most_letters}
use Rattle.simulation.specs.Position.{layers, pairs, positions}
use Rattle.simulation.specs.Rules.{ones, ceiling}
use Rattle.simulation.proofs.Counting.{ones-most}

four : (f d : ℕ) → 4 * (f * (f + d)) ≤ (f + (f + d)) * (f + (f + d))
four f d = simp (mul-add, add-mul) (omega (arith, mul_comm d f))

-- a product whose factors add up to 64 at most
product : (f g : ℕ) → f + g ≤ 64 → f * g ≤ 1024
product f g h = go (dec_le f g)
  where
    half : (x y : ℕ) → x ≤ y → x + y ≤ 64 → x * y ≤ 1024
    half x y l k =
        let e : x + (y - x) ≡ y = omega arith in
        omega (arith, rw e at (four x (y - x)), mul-le-mul {n₁ = x + y} {m₁ = x + y} {n₂ = 64} {m₂ = 64} k k)

    go : Dec (f ≤ g) → f * g ≤ 1024
    go (yes l) = half f g l h
    go (no l) = rw (mul_comm f g) (half g f (omega arith) (omega arith))

pub layers-most : (m : Mode) → layers m ≤ 2
layers-most Ordinary = omega arith
layers-most Direct = omega arith
layers-most Delayed = omega arith
layers-most Fair = omega arith

-- P, where n and k are within any limits, and within those of `automaton`
pub pairs-within : (B : Board) (m : Mode) (n : ℕ) → B.n ≤ n → pairs B m ≤ 2 * (n * n)
pairs-within B m n h = mul-le-mul {n₂ = 2} {m₂ = n * n} (layers-most m) (mul-le-mul {n₂ = n} {m₂ = n} h h)

pub size-within : (B : Board) (m : Mode) (n k : ℕ) → B.n ≤ n → B.k ≤ k → positions B m ≤ 2 * (n * n) * (1 + k)
size-within B m n k h l = mul-le-mul {n₂ = 2 * (n * n)} {m₂ = 1 + k} (pairs-within B m n h) (omega arith)

pub pairs-most : (B : Board) (m : Mode) → B.n ≤ most_states → pairs B m ≤ 8192
pairs-most B m h = pairs-within B m most_states h

pub size-most : (B : Board) (m : Mode) → B.n ≤ most_states → B.k ≤ most_letters → positions B m ≤ 139264
size-most B m h l = size-within B m most_states most_letters h l

-- T, where n is within any limit
pub ceiling-within : (B : Board) (m : Mode) (n : ℕ) → B.n ≤ n → ceiling B m ≤ n * n + 1
ceiling-within B Ordinary n h = omega arith
ceiling-within B Direct n h = omega arith
ceiling-within B Delayed n h = omega (arith, mul-le-mul {n₁ = B.n} {m₁ = B.n - ones B} {n₂ = n} {m₂ = n} h (omega arith))
ceiling-within B Fair n h = omega (arith, mul-le-mul {n₁ = ones B} {m₁ = B.n - ones B} {n₂ = n} {m₂ = n} (omega (arith, ones-most B)) (omega arith))

-- T, where n is within the limit
pub delayed-most : (n f : ℕ) → n ≤ most_states → n * (n - f) + 1 ≤ 4097
delayed-most n f h = omega (arith, mul-le-mul {n₁ = n} {m₁ = n - f} {n₂ = 64} {m₂ = 64} h (omega arith))

pub fair-most : (n f : ℕ) → n ≤ most_states → f ≤ n → f * (n - f) + 1 ≤ 1025
fair-most n f h l = omega (arith, product f (n - f) (omega arith))

module _ (B : Board) (F : Formed B) where
  pub positions-most : (m : Mode) → positions B m ≤ 139264
  positions-most m = size-most B m F.few F.few_letters

  pub ceiling-delayed : ceiling B Delayed ≤ 4097
  ceiling-delayed = delayed-most B.n (ones B) F.few

  pub ceiling-fair : ceiling B Fair ≤ 1025
  ceiling-fair = fair-most B.n (ones B) F.few (ones-most B)

  pub ceiling-most : (m : Mode) → ceiling B m ≤ 4097
  ceiling-most m = ceiling-within B m most_states F.few
