-- What follows for members from the answers of the calls on sets.
use Rattle.std.proofs.Common.{◌≡◌, refl, sym, ◌∙◌, ◌⊎◌, inl, inr, ℕ, zero, suc, ◌^◌, ◌≤◌, ◌<◌, arith}
use native.Mathlib.Decide.{ℕ_discrete}
use Rattle.words.specs.Word.{dig, In, Pop, Minus, With, Joined, Met}
use Rattle.words.proofs.Digits.{dig_le, dig-zero, dig-bound}

pub in_or-out : (s x : ℕ) → In x s ⊎ (dig s x ≡ 0)
in_or-out s x = go (dig s x) refl (dig_le s x)
  where
    go : (d : ℕ) → dig s x ≡ d → d ≤ 1 → In x s ⊎ (dig s x ≡ 0)
    go zero e h = inr e
    go (suc zero) e h = inl e
    go (suc (suc d)) e h = absurd (omega arith)

pub empty : (x : ℕ) → In x 0 → ⊥
empty x i = omega (arith, dig-zero x)

pub word_bound : {s : ℕ} → s < 2 ^ 64 → (x : ℕ) → In x s → x < 64
word_bound {s} h x i = dig-bound 64 s x h i

module _ {m j r : ℕ} where
  -- a member of m is j, or left in r
  pub pop_cases : Pop m j r → (x : ℕ) → In x m → (x ≡ j) ⊎ In x r
  pop_cases p x i = go (ℕ_discrete x j)
    where
      go : Dec (x ≡ j) → (x ≡ j) ⊎ In x r
      go (yes e) = inl e
      go (no n) = inr (p.other x n ∙ i)

  pub pop_sub : Pop m j r → (x : ℕ) → In x r → In x m
  pop_sub p x i = go (ℕ_discrete x j)
    where
      go : Dec (x ≡ j) → In x m
      go (yes e) = rw e p.here
      go (no n) = sym (p.other x n) ∙ i

  pub with_cases : With m j r → (x : ℕ) → In x r → In x m ⊎ (x ≡ j)
  with_cases w x i = go (ℕ_discrete x j)
    where
      go : Dec (x ≡ j) → In x m ⊎ (x ≡ j)
      go (yes e) = inr e
      go (no n) = inl (sym (w.other x n) ∙ i)

  pub with_old : With m j r → (x : ℕ) → In x m → In x r
  with_old w x i = go (ℕ_discrete x j)
    where
      go : Dec (x ≡ j) → In x r
      go (yes e) = rw e w.here
      go (no n) = w.other x n ∙ i

module _ {a b r : ℕ} where
  pub minus-cases : Minus a b r → (x : ℕ) → In x a → In x b ⊎ In x r
  minus-cases m x i = go (in_or-out b x)
    where
      go : In x b ⊎ (dig b x ≡ 0) → In x b ⊎ In x r
      go (inl k) = inl k
      go (inr k) = inr (m.keep x i k)

  pub minus-sub : Minus a b r → (x : ℕ) → In x r → In x a
  minus-sub m x i = omega (arith, m.sub x, dig_le a x)

  pub minus-off : Minus a b r → (x : ℕ) → In x r → dig b x ≡ 0
  minus-off m x i = go (in_or-out b x)
    where
      go : In x b ⊎ (dig b x ≡ 0) → dig b x ≡ 0
      go (inl k) = absurd (omega (arith, m.off x k))
      go (inr k) = k

  pub joined_in_left : Joined a b r → (x : ℕ) → In x a → In x r
  joined_in_left j x i = omega (arith, j.each x, dig_le b x)

  pub joined_in_right : Joined a b r → (x : ℕ) → In x b → In x r
  joined_in_right j x i = omega (arith, j.each x, dig_le a x)

  pub joined-cases : Joined a b r → (x : ℕ) → In x r → In x a ⊎ In x b
  joined-cases j x i = go (in_or-out a x)
    where
      go : In x a ⊎ (dig a x ≡ 0) → In x a ⊎ In x b
      go (inl k) = inl k
      go (inr k) = inr (omega (arith, j.each x))

  pub met_in : Met a b r → (x : ℕ) → In x a → In x b → In x r
  met_in m x i k = omega (arith, m.each x)

  pub met-left : Met a b r → (x : ℕ) → In x r → In x a
  met-left m x i = omega (arith, m.each x, dig_le a x)

  pub met_right : Met a b r → (x : ℕ) → In x r → In x b
  met_right m x i = omega (arith, m.each x, dig_le b x)
