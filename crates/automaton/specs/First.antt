-- Numbers that have a property: the first of a stretch, which is what every place in an answer names, and whether there is one.
use Rattle.std.specs.Prelude.{Bool, false, ◌||◌, cond, ℕ, zero, suc, ltb, Option, Some, None}

-- the first of the c numbers from v on that has p, and v + c if none has
unfoldable pub first : (ℕ → Bool) → (v c : ℕ) → ℕ
first p v zero = v
first p v (suc c) = cond (p v) v (first p (suc v) c)

-- the first of the numbers below c that has p, if one has
abbrev pub first_below : (ℕ → Bool) → (c : ℕ) → Option ℕ
first_below p c = cond (ltb (first p 0 c) c) (Some (first p 0 c)) None

-- has one of the numbers below c the property p?
abbrev pub some : (ℕ → Bool) → (c : ℕ) → Bool
some p zero = false
some p (suc c) = p c || some p c
