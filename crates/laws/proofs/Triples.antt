-- Triples listed in turn: the three bytes of each number below c that has a property. The place of a number's triple is
-- how many numbers below it have the property, so the triples stand in the order of their numbers, each once.
use mathlib.Core.Path.{◌≡◌, refl, sym, ap, ◌∙◌, subst}
use mathlib.Core.Bool.{Bool, true, false, cond}
use mathlib.Core.List.{List, [], ◌++◌}
use Prim.Native.Nat.{ℕ, zero, suc, ◌+◌, ◌*◌, ◌<◌}
use native.Mathlib.Nat.{add-zero}
use native.Mathlib.Omega.{arith}
use native.Mathlib.Decide.{ℕ_discrete, dec_lt}
use lib.ListN.{length, get_or, length-append, get_or-append}
use lib.Seq.{get_or-append-add}
use Rattle.games.specs.Play.{count}
use Rattle.games.proofs.Count.{count_less, count-onto}
use Rattle.automaton.specs.Board.{from, letter, to}
use Rattle.simulation.specs.Rules.{bit}
use Rattle.simulation.specs.Quotient.{in_turn}
use Rattle.simulation.proofs.Listed.{bit-most, bit-one}

-- ---- places

module _ (p : ℕ → Bool) where
  -- how many numbers below c have p
  abbrev pub having : (c : ℕ) → ℕ
  having c = count (λ v. bit (p v)) c

  -- fewer below one that has p than below any higher number
  having_more : (v c : ℕ) → v < c → p v ≡ true → having v < having c
  having_more v c l e = count_less (λ v. bit (p v)) v c l (ap bit e)

  -- a later place is that of a higher number
  pub having_less : (v w : ℕ) → p w ≡ true → having v < having w → v < w
  having_less v w e h = go (dec_lt v w) (ℕ_discrete v w)
    where
      go : Dec (v < w) → Dec (v ≡ w) → v < w
      go (yes l) k = l
      go (no l) (yes k) = absurd (omega (arith, ap having k))
      go (no l) (no k) = absurd (omega (arith, having_more w v (omega arith) e))

-- ---- triples

module _ (p : ℕ → Bool) (g : ℕ → List ℕ) where
  -- what g makes of the numbers below c that have p
  abbrev pub listed : (c : ℕ) → List ℕ
  listed c = in_turn (λ v. cond (p v) (g v) []) c

  -- triple i below c is that of v
  abbrev pub Stands : (c i v : ℕ) → Type 0
  Stands c i v = (from (listed c) i ≡ get_or (g v) 0 0) × (letter (listed c) i ≡ get_or (g v) 1 0) × (to (listed c) i ≡ get_or (g v) 2 0)

  module _ (three : (v : ℕ) → length (g v) ≡ 3) where
    -- three bytes for each
    pub listed-long : (c : ℕ) → length (listed c) ≡ having p c * 3
    listed-long zero = refl
    listed-long (suc c) = length-append (listed c) (cond (p c) (g c) []) ∙ go (p c) (listed-long c)
      where
        go : (s : Bool) → length (listed c) ≡ having p c * 3 → length (listed c) + length (cond s (g c) []) ≡ (bit s + having p c) * 3
        go true e = omega (arith, three c)
        go false e = omega arith

    -- byte j of v's triple
    byte_at : (j : ℕ) → j < 3 → (c v : ℕ) → v < c → p v ≡ true → get_or (listed c) (having p v * 3 + j) 0 ≡ get_or (g v) j 0
    byte_at j b zero v l e = absurd (omega arith)
    byte_at j b (suc c) v l e = go (ℕ_discrete v c) (λ k. byte_at j b c v k e)
      where
        go : Dec (v ≡ c) → (v < c → get_or (listed c) (having p v * 3 + j) 0 ≡ get_or (g v) j 0) → get_or (listed c ++ cond (p c) (g c) []) (having p v * 3 + j) 0 ≡ get_or (g v) j 0
        go (yes d) rec = rw (d, ap p (sym d) ∙ e, ← listed-long c) (get_or-append-add (listed c) (g c) j 0)
        go (no d) rec =
            let k : v < c = omega arith in
            get_or-append (listed c) (cond (p c) (g c) []) 0 (having p v * 3 + j) (omega (arith, listed-long c, having_more p v c k e)) ∙ rec k

    -- a number that has p has a place
    pub listed_at : (c v : ℕ) → v < c → p v ≡ true → (having p v * 3 + 2 < length (listed c)) × Stands c (having p v) v
    listed_at c v l e = (
      omega (arith, listed-long c, having_more p v c l e),
      (
        ap (λ (j : ℕ). get_or (listed c) j 0) (sym (add-zero (having p v * 3))) ∙ byte_at 0 (omega arith) c v l e,
        byte_at 1 (omega arith) c v l e,
        byte_at 2 (omega arith) c v l e,
      ),
    )

    -- and each place a number
    pub listed_of : (c i : ℕ) → i * 3 + 2 < length (listed c) → (v : ℕ) × (v < c) × (p v ≡ true) × (having p v ≡ i) × Stands c i v
    listed_of c i l =
        let (v, k, e, d) = count-onto (λ v. bit (p v)) (λ v. bit-most (p v)) c i (omega (arith, listed-long c)) in
        let h = (bit-one (p v)).0 e in
        (v, k, h, d, subst (λ (i : ℕ). Stands c i v) d (listed_at c v k h).1)
