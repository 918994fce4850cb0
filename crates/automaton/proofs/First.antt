-- The laws of `first`: one step on, where it lies, what is false before it and true at it, and which searches find it. And the law of `some`.
use Rattle.std.proofs.Common.{◌≡◌, refl, sym, ap, ◌∙◌, ◌↔◌, Bool, true, false, ◌&&◌, ◌||◌, not, cond, true≢false, ℕ, zero, suc, ◌+◌, ◌-◌, ◌≤◌, ◌<◌, add-one, zero-add, arith, eq-eqb, ne_eqb, eqb, ltb, lt-ltb, le-ltb, ltb-false, List, length, get_or, Some, None}
use Rattle.std.proofs.lemmas.Bool.{false≢true}
use Rattle.std.specs.Option.{unwrap_or}
use Rattle.std.specs.List.{find, position, range_with_len}
use Rattle.std.proofs.lemmas.List.Sums.{position_or_len_is}
use native.Mathlib.Decide.{ℕ_discrete}
use Rattle.automaton.specs.First.{first, first_below, some}

-- w is the first of the c numbers from v on that has p, and v + c if none has
pub record Lowest (p : ℕ → Bool) (v c w : ℕ) : Type 0 where
  pub least : v ≤ w
  pub most : w ≤ v + c
  pub before : (u : ℕ) → v ≤ u → u < w → p u ≡ false
  pub here : w < v + c → p w ≡ true

module _ (p : ℕ → Bool) where
  pub first-here : (v c : ℕ) → p v ≡ true → first p v c ≡ v
  unfolding first
  first-here v zero e = refl
  first-here v (suc c) e = simp e

  pub first_next : (v c : ℕ) → p v ≡ false → first p v (suc c) ≡ first p (suc v) c
  unfolding first
  first_next v c e = simp e

  -- a loop from v up to e: one turn, and its end
  pub first_passed : (v e : ℕ) → v < e → p v ≡ false → first p (v + 1) (e - (v + 1)) ≡ first p v (e - v)
  first_passed v e h f =
      let l : e - v ≡ suc (e - (v + 1)) = omega arith in
      simp (l, add-one, first_next v (e - suc v) f)

  pub first-end : (v e : ℕ) → e ≤ v → first p v (e - v) ≡ v
  unfolding first
  first-end v e h = let l : e - v ≡ 0 = omega arith in simp l

  pub first-lowest : (v c : ℕ) → Lowest p v c (first p v c)
  unfolding first
  first-lowest v zero = record { least = omega arith; most = omega arith; before = λ u l k. absurd (omega arith); here = λ l. absurd (omega arith) }
  first-lowest v (suc c) = go (p v) refl (first-lowest (suc v) c)
    where
      go : (s : Bool) → p v ≡ s → Lowest p (suc v) c (first p (suc v) c) → Lowest p v (suc c) (cond s v (first p (suc v) c))
      go true e r = record { least = omega arith; most = omega arith; before = λ u l k. absurd (omega arith); here = λ l. e }
      go false e r = record {
        least = omega (arith, r.least);
        most = omega (arith, r.most);
        before = λ u l k. earlier u l k (ℕ_discrete u v);
        here = λ l. r.here (omega arith);
      }
        where
          earlier : (u : ℕ) → v ≤ u → u < first p (suc v) c → Dec (u ≡ v) → p u ≡ false
          earlier u l k (yes d) = ap p d ∙ e
          earlier u l k (no d) = r.before u (omega arith) k

  pub first-none : (v c : ℕ) → (first p v c ≡ v + c) ↔ ((u : ℕ) → v ≤ u → u < v + c → p u ≡ false)
  first-none v c = (λ e u l k. r.before u l (omega arith), λ n. go n (ℕ_discrete (first p v c) (v + c)))
    where
      r : Lowest p v c (first p v c)
      r = first-lowest v c

      go : ((u : ℕ) → v ≤ u → u < v + c → p u ≡ false) → Dec (first p v c ≡ v + c) → first p v c ≡ v + c
      go n (yes e) = e
      go n (no d) =
          let b : first p v c < v + c = omega (arith, r.most) in
          absurd (true≢false (sym (r.here b) ∙ n (first p v c) r.least b))

  -- the first of one number more
  pub first_more : (v c : ℕ) → first p v (suc c) ≡ cond (eqb (first p v c) (v + c) && not (p (v + c))) (suc (v + c)) (first p v c)
  unfolding first
  first_more v zero = go (p v) refl
    where
      go : (s : Bool) → p v ≡ s → cond s v (suc v) ≡ cond (eqb v (v + 0) && not (p (v + 0))) (suc (v + 0)) v
      go true e = let z : v + 0 ≡ v = omega arith in simp (z, e, eq-eqb v v refl)
      go false e = let z : v + 0 ≡ v = omega arith in simp (z, e, eq-eqb v v refl)
  first_more v (suc c) = go (p v) refl (first_more (suc v) c)
    where
      go : (s : Bool) → p v ≡ s
          → first p (suc v) (suc c) ≡ cond (eqb (first p (suc v) c) (suc v + c) && not (p (suc v + c))) (suc (suc v + c)) (first p (suc v) c)
          → cond s v (first p (suc v) (suc c)) ≡ cond (eqb (cond s v (first p (suc v) c)) (v + suc c) && not (p (v + suc c))) (suc (v + suc c)) (cond s v (first p (suc v) c))
      go true e r = let n : eqb v (v + suc c) ≡ false = ne_eqb v (v + suc c) (λ z. omega arith) in simp n
      go false e r = let z : v + suc c ≡ suc v + c = omega arith in simp z r

  -- `some` says that there is one
  pub some_is : (c : ℕ) → (some p c ≡ true) ↔ ((i : ℕ) × (i < c) × (p i ≡ true))
  some_is zero = (λ e. absurd (false≢true e), λ k. absurd (omega (arith, k.1)))
  some_is (suc c) = go (p c) refl (some_is c)
    where
      go : (s : Bool) → p c ≡ s → (some p c ≡ true) ↔ ((i : ℕ) × (i < c) × (p i ≡ true)) → ((s || some p c) ≡ true) ↔ ((i : ℕ) × (i < suc c) × (p i ≡ true))
      go true d r = (λ e. (c, omega arith, d), λ k. refl)
      go false d r = (λ e. let (i, l, h) = r.0 e in (i, omega arith, h), λ k. r.1 (earlier k))
        where
          earlier : (i : ℕ) × (i < suc c) × (p i ≡ true) → (i : ℕ) × (i < c) × (p i ≡ true)
          earlier (i, l, h) = (i, at (ℕ_discrete i c), h)
            where
              at : Dec (i ≡ c) → i < c
              at (yes e) = absurd (true≢false (sym h ∙ ap p e ∙ d))
              at (no n) = omega arith

-- two properties that agree on a stretch have the same first there
pub first-same : (p p' : ℕ → Bool) (v c : ℕ) → ((i : ℕ) → v ≤ i → i < v + c → p i ≡ p' i) → first p v c ≡ first p' v c
unfolding first
first-same p p' v zero e = refl
first-same p p' v (suc c) e =
    ap (λ (s : Bool). cond s v (first p (suc v) c)) (e v (omega arith) (omega arith)) ∙
    ap (cond (p' v) v) (first-same p p' (suc v) c (λ i l k. e i (omega arith) (omega arith)))

-- ---- the first below a number, if there is one

pub first_below-Some : (p : ℕ → Bool) (c w : ℕ) → Some w ≡ first_below p c → (first p 0 c ≡ w) × (ltb (first p 0 c) c ≡ true)
first_below-Some p c w e = go (ltb (first p 0 c) c) refl e
  where
    go : (s : Bool) → ltb (first p 0 c) c ≡ s → Some w ≡ cond s (Some (first p 0 c)) None → (first p 0 c ≡ w) × (ltb (first p 0 c) c ≡ true)
    go true d e = (cc, d)
    go false d e = cc

pub first_below-None : (p : ℕ → Bool) (c : ℕ) → None ≡ first_below p c → ltb (first p 0 c) c ≡ false
first_below-None p c e = go (ltb (first p 0 c) c) refl e
  where
    go : (s : Bool) → ltb (first p 0 c) c ≡ s → None ≡ cond s (Some (first p 0 c)) None → ltb (first p 0 c) c ≡ false
    go true d e = cc
    go false d e = d

-- what `position` finds in a list, and `find` in a stretch of numbers
pub first_below-position : (test : ℕ → Bool) (xs : List ℕ) → position test xs ≡ first_below (λ i. test (get_or xs i 0)) (length xs)
first_below-position test xs =
    let p : ℕ → Bool = λ i. test (get_or xs i 0) in
    let r = first-lowest p 0 (length xs) in
    simp (position_or_len_is test xs (first p 0 (length xs)) 0 (omega (arith, r.most)) (λ k l. r.before k (omega arith) l) (λ l. r.here (omega arith)))

first-find : (p : ℕ → Bool) (v c : ℕ) → find p (range_with_len v c) ≡ cond (ltb (first p v c) (v + c)) (Some (first p v c)) None
unfolding first
first-find p v zero = let z : ltb v (v + 0) ≡ false = le-ltb v (v + 0) (omega arith) in simp z
first-find p v (suc c) = go (p v) refl (first-find p (suc v) c)
  where
    go : (s : Bool) → p v ≡ s → find p (range_with_len (suc v) c) ≡ cond (ltb (first p (suc v) c) (suc v + c)) (Some (first p (suc v) c)) None
        → cond s (Some v) (find p (range_with_len (v + 1) c)) ≡ cond (ltb (cond s v (first p (suc v) c)) (v + suc c)) (Some (cond s v (first p (suc v) c))) None
    go true e r = simp (lt-ltb v (v + suc c) (omega arith))
    go false e r = let z : v + suc c ≡ suc v + c = omega arith in simp (z, add-one) r

pub first_below-find : (p : ℕ → Bool) (c : ℕ) → find p (range_with_len 0 c) ≡ first_below p c
first_below-find p c = rw (zero-add c) at (first-find p 0 c)

-- and where `find` is given the end for what it does not find
pub first-find-or : (p : ℕ → Bool) (v c : ℕ) → unwrap_or (find p (range_with_len v c)) (v + c) ≡ first p v c
first-find-or p v c = ap (λ o. unwrap_or o (v + c)) (first-find p v c) ∙ go (ltb (first p v c) (v + c)) refl
  where
    go : (s : Bool) → ltb (first p v c) (v + c) ≡ s → unwrap_or (cond s (Some (first p v c)) None) (v + c) ≡ first p v c
    go true d = refl
    go false d = omega (arith, ltb-false (first p v c) (v + c) d, (first-lowest p v c).most)
