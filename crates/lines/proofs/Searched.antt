-- Where a byte first stands, by what is told of the bytes before it and of the byte there.
use Rattle.std.proofs.Common.{◌≡◌, sym, ap, ◌∙◌, Bool, true, false, List, [], ◌∷◌, ℕ, zero, suc, ◌+◌, ◌-◌, ◌≤◌, ◌<◌, arith, eqb, length, get_or, take, drop}
use Rattle.std.proofs.lemmas.Bool.{false_from_ne_true}
use Rattle.std.proofs.lemmas.List.{drop-take}
use Rattle.memchr.specs.Find.{NoneBefore, Nowhere, Passes, is_byte}
use Rattle.lines.specs.Search.{index_of, index_after, slice}

pub first_at : (b : ℕ) (xs : List ℕ) (i : ℕ) → i ≤ length xs → ((k : ℕ) → k < i → eqb (get_or xs k 0) b ≡ false) → (i < length xs → eqb (get_or xs i 0) b ≡ true) → index_of b xs ≡ i
unfolding index_of index_after
first_at b [] i h before at = omega (arith, h)
first_at b (x ∷ xs) zero h before at = ap (λ (t : Bool). index_after t (index_of b xs)) (at (omega arith))
first_at b (x ∷ xs) (suc i) h before at =
    ap (λ (t : Bool). index_after t (index_of b xs)) (before 0 (omega arith)) ∙
    ap suc (first_at b xs i (omega (arith, h)) (λ k l. before (suc k) (omega (arith, l))) (λ l. at (omega (arith, l))))

-- the bytes from a place on and before another, as a slice of them has them
pub slice_part : (from to : ℕ) (xs : List ℕ) → from ≤ to → slice from to xs ≡ take (to - from) (drop from xs)
unfolding slice
slice_part from to xs h =
    let whole : from + (to - from) ≡ to = omega (arith, h) in
    ap (λ (n : ℕ). drop from (take n xs)) (sym whole) ∙ drop-take from (to - from) xs

-- what a search answers: the first such place, or none
module _ (b : ℕ) (xs : List ℕ) where
  pub found : (i : ℕ) → NoneBefore (Passes (is_byte b) xs) 0 (length xs) i × Passes (is_byte b) xs i → index_of b xs ≡ i
  found i h = first_at b xs i (omega (arith, h.0.high)) (λ k l. false_from_ne_true (eqb (get_or xs k 0) b) (h.0.before k (omega arith) l)) (λ l. h.1)

  pub not_found : Nowhere (Passes (is_byte b) xs) 0 (length xs) → index_of b xs ≡ length xs
  not_found h = first_at b xs (length xs) (omega arith) (λ k l. false_from_ne_true (eqb (get_or xs k 0) b) (h k (omega arith) l)) (λ l. absurd (omega (arith, l)))
