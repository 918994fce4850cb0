-- Bytes compared: what the kit's `same` answers is what the definition gives.
use Rattle.std.proofs.Common.{◌≡◌, refl, sym, ap, ◌∙◌, Bool, true, false, true≢false, cond, List, [], ◌∷◌, ℕ, eq-eqb, eqb-true, eqb}
use Rattle.fields.specs.Bytes.{same}

same_self : (xs : List ℕ) → same xs xs ≡ true
unfolding same
same_self [] = refl
same_self (x ∷ xs) = simp (eq-eqb x x refl, same_self xs)

same-other : (xs ys : List ℕ) → (xs ≡ ys → ⊥) → same xs ys ≡ false
unfolding same
same-other [] [] n = absurd (n refl)
same-other [] (y ∷ ys) n = refl
same-other (x ∷ xs) [] n = refl
same-other (x ∷ xs) (y ∷ ys) n = by_first (eqb x y) refl (same-other xs ys)
  where
    by_first : (t : Bool) → eqb x y ≡ t → ((xs ≡ ys → ⊥) → same xs ys ≡ false) → cond t (same xs ys) false ≡ false
    by_first true e others = others (λ r. n (cc (r, eqb-true x y e)))
    by_first false e others = refl

pub same-told : (r : Bool) (xs ys : List ℕ) → (r ≡ true → xs ≡ ys) × (xs ≡ ys → r ≡ true) → same xs ys ≡ r
same-told true xs ys h = ap (same xs) (sym (h.0 refl)) ∙ same_self xs
same-told false xs ys h = same-other xs ys (λ e. true≢false (sym (h.1 e)))
