-- Laws of sums over the numbers below a bound.
use mathlib.Core.Path.{◌≡◌, refl, sym, ap}
use Prim.Native.Nat.{ℕ, zero, suc, ◌+◌, ◌*◌, ◌≤◌, ◌<◌}
use native.Mathlib.Nat.{le_refl, add-suc, add-zero, suc-mul, zero-mul, add-mul}
use native.Mathlib.Omega.{arith}
use native.Mathlib.Decide.{ℕ_discrete, dec_lt}
use Rattle.games.specs.Play.{count}

pub count_mono : (p h : ℕ → ℕ) (a : ℕ) → ((i : ℕ) → i < a → p i ≤ h i) → count p a ≤ count h a
count_mono p h zero le = le_refl 0
count_mono p h (suc a) le = omega (arith, le a (omega arith), count_mono p h a (λ i l. le i (omega arith)))

pub count_none : (p : ℕ → ℕ) (a : ℕ) → ((i : ℕ) → i < a → p i ≡ 0) → count p a ≡ 0
count_none p zero z = refl
count_none p (suc a) z = omega (arith, z a (omega arith), count_none p a (λ i l. z i (omega arith)))

pub count-sum : (p : ℕ → ℕ) (a b : ℕ) → count p (a + b) ≡ count p a + count (λ i. p (a + i)) b
count-sum p a zero = rw (add-zero a) (omega arith)
count-sum p a (suc b) = rw (add-suc a b) (omega (arith, count-sum p a b))

pub count_mul : (p : ℕ → ℕ) (c a : ℕ) → count (λ i. p i * c) a ≡ count p a * c
count_mul p c zero = sym (zero-mul c)
count_mul p c (suc a) = rw (count_mul p c a) (sym (add-mul (p a) (count p a) c))

-- row by row
pub count-rows : (p h : ℕ → ℕ) (n a : ℕ) → ((i : ℕ) → i < a → count (λ j. p (i * n + j)) n ≤ h i) → count p (a * n) ≤ count h a
count-rows p h n zero le = rw (zero-mul n) (le_refl 0)
count-rows p h n (suc a) le =
    rw (suc-mul a n, count-sum p (a * n) n) (omega (arith, le a (omega arith), count-rows p h n a (λ i l. le i (omega arith))))

-- ---- where p is 0 or 1, the sum tells how many have 1

-- fewer are below one that has 1 than below any higher number
pub count_less : (p : ℕ → ℕ) (u a : ℕ) → u < a → p u ≡ 1 → count p u < count p a
count_less p u zero l e = absurd (omega arith)
count_less p u (suc a) l e = go (ℕ_discrete u a) (λ k. count_less p u a k e)
  where
    go : Dec (u ≡ a) → (u < a → count p u < count p a) → count p u < p a + count p a
    go (yes d) rec = omega (arith, ap p d, ap (count p) d, e)
    go (no d) rec = omega (arith, rec (omega arith))

module _ (p : ℕ → ℕ) (most : (u : ℕ) → p u ≤ 1) where
  -- no more than there are numbers
  pub count_most : (a : ℕ) → count p a ≤ a
  count_most zero = le_refl 0
  count_most (suc a) = omega (arith, most a, count_most a)

  -- every c less than all is how many are below some one that has 1
  pub count-onto : (a c : ℕ) → c < count p a → (u : ℕ) × (u < a) × (p u ≡ 1) × (count p u ≡ c)
  count-onto zero c l = absurd (omega arith)
  count-onto (suc a) c l = go (dec_lt c (count p a)) (λ k. count-onto a c k)
    where
      go : Dec (c < count p a) → (c < count p a → (u : ℕ) × (u < a) × (p u ≡ 1) × (count p u ≡ c)) → (u : ℕ) × (u < suc a) × (p u ≡ 1) × (count p u ≡ c)
      go (yes k) rec = let (u, i, e, d) = rec k in (u, omega arith, e, d)
      go (no k) rec = (a, omega arith, omega (arith, most a), omega (arith, most a))
