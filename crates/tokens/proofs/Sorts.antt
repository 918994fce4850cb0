-- Sorts told apart: `is` says of two sorts whether they are the same.
use Rattle.std.proofs.Common.{◌≡◌, refl, sym, ap, subst, ◌∙◌, Bool, true, false, cond, ℕ, eqb, true≢false, eqb-true, eq-eqb}
use Rattle.std.proofs.Math.Bool.{and-eq-true_iff}
use Rattle.tokens.specs.declared.Sort.{Sort}
use Rattle.tokens.specs.declared.Sort.TheVariants as sort
use Rattle.tokens.specs.Sorts.{index, value, is}

-- the sort at a place among the sorts
sort_at : (place value : ℕ) → Sort
sort_at i v =
    cond (eqb i 0) (sort.Number v)
    (cond (eqb i 1) sort.Quoted
    (cond (eqb i 2) sort.Name
    (cond (eqb i 3) sort.True
    (cond (eqb i 4) sort.False
    (cond (eqb i 5) sort.Version
    (cond (eqb i 6) sort.Inf
    (cond (eqb i 7) sort.Not
    (cond (eqb i 8) sort.And
    (cond (eqb i 9) sort.Or
    (cond (eqb i 10) sort.Group
    (cond (eqb i 11) sort.GroupEnd
    (cond (eqb i 12) sort.Label
    (cond (eqb i 13) sort.LabelEnd
    (cond (eqb i 14) sort.Marks
    (cond (eqb i 15) sort.MarksEnd
    (cond (eqb i 16) sort.Hoa
    (cond (eqb i 17) sort.States
    (cond (eqb i 18) sort.Start
    (cond (eqb i 19) sort.Ap
    (cond (eqb i 20) sort.Acceptance
    (cond (eqb i 21) sort.State
    (cond (eqb i 22) sort.Minor
    (cond (eqb i 23) sort.Body
    (cond (eqb i 24) sort.End
    (cond (eqb i 25) sort.Nothing
    sort.Wrong)))))))))))))))))))))))))

found : (k : Sort) → sort_at (index k) (value k) ≡ k
unfolding sort_at
found (sort.Number v) = refl
found _ = refl

pub is-true : (a b : Sort) → is a b ≡ true → a ≡ b
is-true a b e =
    let w = (and-eq-true_iff (eqb (index a) (index b)) (eqb (value a) (value b))).0 e in
    sym (found a)
    ∙ ap (λ (i : ℕ). sort_at i (value a)) (eqb-true (index a) (index b) w.0)
    ∙ ap (sort_at (index b)) (eqb-true (value a) (value b) w.1)
    ∙ found b

is-self : (a : Sort) → is a a ≡ true
is-self (sort.Number v) = eq-eqb v v refl
is-self _ = refl

pub is-same : {a b : Sort} → a ≡ b → is a b ≡ true
is-same {a} e = subst (λ (b : Sort). is a b ≡ true) e (is-self a)

pub is-false : (a b : Sort) → is a b ≡ false → a ≡ b → ⊥
is-false a b f e = true≢false (sym (is-same e) ∙ f)
