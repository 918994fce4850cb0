-- A triple (q,a,r) has the number (q·k + a)·n + r: it is read back from it by division, and triples ascend with their numbers.
-- So the triples of the numbers that have a property, listed in turn, stand strictly ascending.
use mathlib.Core.Path.{◌≡◌, refl, sym, ap, ◌∙◌}
use mathlib.Core.Logic.{◌⊎◌, inl, inr, ◌↔◌}
use mathlib.Core.Bool.{Bool, true}
use mathlib.Core.List.{List}
use Prim.Native.Nat.{ℕ, suc, ◌+◌, ◌*◌, ◌/◌, ◌%◌, ◌<◌}
use native.Mathlib.Nat.{le_trans, mod-lt, div-add-mod', div-mul-le_self, le-div_iff_mul-le, div-lt_iff_lt-mul}
use native.Mathlib.Omega.{arith}
use native.Mathlib.Decide.{dec_lt}
use lib.Arith.{digits_lt, digits_div, digits_mod}
use lib.ListN.{length}
use Rattle.automaton.specs.Board.{from, letter, to, Above}
use Rattle.simulation.specs.Quotient.{triple_by}
use Rattle.laws.proofs.Triples.{having, having_less, listed, listed_at, listed_of}

-- of two numbers the higher has the higher quotient, or the same and the higher remainder
rises : (c x y : ℕ) → 0 < c → x < y → (x / c < y / c) ⊎ ((x / c ≡ y / c) × (x % c < y % c))
rises c x y p h = go (dec_lt (x / c) (y / c))
  where
    go : Dec (x / c < y / c) → (x / c < y / c) ⊎ ((x / c ≡ y / c) × (x % c < y % c))
    go (yes l) = inl l
    go (no l) =
        let e : x / c ≡ y / c = omega (arith, (le-div_iff_mul-le {k = c} {x = x / c} {y = y} p).1 (le_trans (div-mul-le_self x c) (omega arith))) in
        inr (e, omega (arith, ap (λ (z : ℕ). z * c) e, div-add-mod' x c, div-add-mod' y c))

module _ (n k : ℕ) where
  -- x is the number of the triple (q,a,r)
  abbrev pub Reads : (x q a r : ℕ) → Type 0
  Reads x q a r = (x / n / k ≡ q) × (x / n % k ≡ a) × (x % n ≡ r)

  -- the number of a triple inside the board is in range
  pub number_lt : {q a r : ℕ} → q < n → a < k → r < n → (q * k + a) * n + r < n * k * n
  number_lt f a g = digits_lt (digits_lt f a) g

  -- and the triple is read back from it
  pub number_read : (q : ℕ) {a r : ℕ} → a < k → r < n → Reads ((q * k + a) * n + r) q a r
  number_read q {a} {r} h g =
      let e : ((q * k + a) * n + r) / n ≡ q * k + a = digits_div (q * k + a) g in
      (ap (λ (z : ℕ). z / k) e ∙ digits_div q h, ap (λ (z : ℕ). z % k) e ∙ digits_mod q h, digits_mod (q * k + a) g)

  module _ (states : 0 < n) (letters : 0 < k) where
    -- the triple of a number in range is inside the board
    pub triple-inside : (x : ℕ) → x < n * k * n → (x / n / k < n) × (x / n % k < k) × (x % n < n)
    triple-inside x h = ((div-lt_iff_lt-mul letters).1 ((div-lt_iff_lt-mul states).1 h), mod-lt (x / n) letters, mod-lt x states)

    -- the triples ascend with their numbers
    triples_rise : (x y : ℕ) → x < y → Above (x / n / k) (x / n % k) (x % n) (y / n / k) (y / n % k) (y % n)
    triples_rise x y h = go (rises n x y states h)
      where
        inner : (x / n / k < y / n / k) ⊎ ((x / n / k ≡ y / n / k) × (x / n % k < y / n % k)) → Above (x / n / k) (x / n % k) (x % n) (y / n / k) (y / n % k) (y % n)
        inner (inl l) = inl l
        inner (inr (e, l)) = inr (e, inl l)

        go : (x / n < y / n) ⊎ ((x / n ≡ y / n) × (x % n < y % n)) → Above (x / n / k) (x / n % k) (x % n) (y / n / k) (y / n % k) (y % n)
        go (inl l) = inner (rises k (x / n) (y / n) letters l)
        go (inr (e, l)) = inr (ap (λ (z : ℕ). z / k) e, inr (ap (λ (z : ℕ). z % k) e, l))

  -- ---- the triples of the numbers below c that have p

  module _ (p : ℕ → Bool) (c : ℕ) where
    abbrev pub numbered : List ℕ
    numbered = listed p (triple_by n k) c

    -- strictly ascending
    pub numbered_ascend : 0 < n → 0 < k → (i : ℕ) → i * 3 + 5 < length numbered
        → Above (from numbered i) (letter numbered i) (to numbered i) (from numbered (suc i)) (letter numbered (suc i)) (to numbered (suc i))
    numbered_ascend o z i l =
        let (x, h, e, d, s) = listed_of p (triple_by n k) (λ x. refl) c i (omega arith) in
        let (y, g, f, b, r) = listed_of p (triple_by n k) (λ x. refl) c (suc i) (omega arith) in
        rw (s.0, s.1, s.2, r.0, r.1, r.2) (triples_rise o z x y (having_less p x y f (omega arith)))

    -- (q,a,r) stands among them exactly if it is the triple of such a number
    pub numbered_is : (q a r : ℕ)
        → ((i : ℕ) × (i * 3 + 2 < length numbered) × (from numbered i ≡ q) × (letter numbered i ≡ a) × (to numbered i ≡ r))
        ↔ ((x : ℕ) × (x < c) × (p x ≡ true) × Reads x q a r)
    numbered_is q a r = (
      λ m.
          let (i, l, u, v, w) = m in
          let (x, h, e, d, s) = listed_of p (triple_by n k) (λ x. refl) c i l in
          (x, h, e, (sym s.0 ∙ u, sym s.1 ∙ v, sym s.2 ∙ w)),
      λ m.
          let (x, h, e, (u, v, w)) = m in
          let (l, s) = listed_at p (triple_by n k) (λ x. refl) c x h e in
          (having p x, l, s.0 ∙ u, s.1 ∙ v, s.2 ∙ w),
    )
