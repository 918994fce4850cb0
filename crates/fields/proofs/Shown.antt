-- A number in decimal is read back as that number, and nothing else is.
use Rattle.std.proofs.Common.{Some, None, ◌≡◌, refl, ap, sym, ◌∙◌, Bool, true, false, ◌&&◌, cond, List, [], ◌∷◌, ◌++◌, append_assoc, append-nil, ℕ, zero, suc, ◌+◌, ◌-◌, ◌*◌, ◌/◌, ◌%◌, ◌<◌, ◌≤◌, arith, eq-eqb, ne_eqb, lt-ltb, le-ltb, ltb, eqb, length, get_or, length-append}
use Rattle.fields.specs.Numbers.{digits, number_of, shown_in, shown}
use Rattle.fields.proofs.Tests.{by_test}

enough : (f g v : ℕ) → v < f → v < g → shown_in f v ≡ shown_in g v
unfolding shown_in
enough zero g v h k = absurd (omega arith)
enough (suc f) zero v h k = absurd (omega arith)
enough (suc f) (suc g) v h k =
    by_test v 10 (ltb v 10) refl
    (λ (l : v < 10). simp (lt-ltb v 10 l))
    (λ (l : 10 ≤ v). ap (λ (x : List ℕ). cond (ltb v 10) ((48 + v) ∷ []) (x ++ ((48 + v % 10) ∷ []))) (enough f g (v / 10) (omega arith) (omega arith)))

pub shown-one : (v : ℕ) → v < 10 → shown v ≡ (48 + v) ∷ []
unfolding shown shown_in
shown-one v h = simp (lt-ltb v 10 h)

pub shown-more : (v : ℕ) → 10 ≤ v → shown v ≡ shown (v / 10) ++ ((48 + v % 10) ∷ [])
unfolding shown shown_in
shown-more v h = simp (le-ltb v 10 h) (ap (λ (x : List ℕ). x ++ ((48 + v % 10) ∷ [])) (enough v (suc (v / 10)) (v / 10) (omega arith) (omega arith)))

-- reading v's digits, after none, comes to v
read-on : (f v : ℕ) (rest : List ℕ) → v < f → v ≤ 65535 → digits 0 (shown v ++ rest) ≡ digits v rest
unfolding digits
read-on zero v rest h k = absurd (omega arith)
read-on (suc f) v rest h k =
    by_test v 10 (ltb v 10) refl
    (λ (l : v < 10).
    let a : ltb (48 + v) 48 ≡ false = le-ltb (48 + v) 48 (omega arith) in
    let b : ltb 57 (48 + v) ≡ false = le-ltb 57 (48 + v) (omega arith) in
    let d : 48 + v - 48 ≡ v = omega arith in
    let e : ltb 65535 v ≡ false = le-ltb 65535 v k in
    let z : 0 + v ≡ v = omega arith in
    simp (shown-one v l, a, b, d, z, e))
    (λ (l : 10 ≤ v).
    let w : 48 + v % 10 - 48 ≡ v % 10 = omega arith in
    let z : v / 10 * 10 + v % 10 ≡ v = omega arith in
    let a : ltb (48 + v % 10) 48 ≡ false = le-ltb (48 + v % 10) 48 (omega arith) in
    let b : ltb 57 (48 + v % 10) ≡ false = le-ltb 57 (48 + v % 10) (omega arith) in
    let e : ltb 65535 v ≡ false = le-ltb 65535 v k in
    simp (shown-more v l, append_assoc) (read-on f (v / 10) ((48 + v % 10) ∷ rest) (omega arith) (omega arith) ∙ simp (a, b, w, z, e)))

-- the first digit is no zero, unless it is the only one
lead : (f v : ℕ) (rest : List ℕ) → v < f → 1 ≤ v → 48 < get_or (shown v ++ rest) 0 0
lead zero v rest h k = absurd (omega arith)
lead (suc f) v rest h k =
    by_test v 10 (ltb v 10) refl
    (λ (l : v < 10). simp (shown-one v l) (omega arith))
    (λ (l : 10 ≤ v). simp (shown-more v l, append_assoc) (lead f (v / 10) ((48 + v % 10) ∷ rest) (omega arith) (omega arith)))

pub shown-short : (v : ℕ) → v < 10 → length (shown v) ≡ 1
shown-short v h = simp (shown-one v h)

pub shown-long : (v : ℕ) → 10 ≤ v → length (shown v) ≡ length (shown (v / 10)) + 1
shown-long v h = simp (shown-more v h, length-append)

past-both : {A : Type 0} (t : Bool) (x y : A) → cond (t && false) x y ≡ y
past-both true x y = refl
past-both false x y = refl

pub read-shown : (v : ℕ) → v ≤ 65535 → number_of (shown v) ≡ Some v
unfolding number_of digits
read-shown v h =
    let r : digits 0 (shown v) ≡ Some v = ap (digits 0) (sym (append-nil (shown v))) ∙ read-on (suc v) v [] (omega arith) h in
    by_test v 10 (ltb v 10) refl
    (λ (l : v < 10). simp (shown-short v l) r)
    (λ (l : 10 ≤ v).
    let m : 48 < get_or (shown v) 0 0 = rw (append-nil (shown v)) at (lead (suc v) v [] (omega arith) (omega arith)) in
    let n : eqb (length (shown v)) 0 ≡ false = ne_eqb (length (shown v)) 0 (λ z. omega (arith, shown-long v l)) in
    let o : eqb (get_or (shown v) 0 0) 48 ≡ false = ne_eqb (get_or (shown v) 0 0) 48 (λ z. omega arith) in
    simp (n, o) (past-both (ltb 1 (length (shown v))) None (digits 0 (shown v)) ∙ r))

is_not : (n : ℕ) → None ≡ Some n → ⊥
is_not n p = let z : ◌≡◌ {A = ℕ} 0 1 = cc in omega arith

shown-step : (v d : ℕ) → 1 ≤ v → d < 10 → shown (v * 10 + d) ≡ shown v ++ ((48 + d) ∷ [])
shown-step v d h k =
    let a : (v * 10 + d) / 10 ≡ v = omega arith in
    let b : (v * 10 + d) % 10 ≡ d = omega arith in
    shown-more (v * 10 + d) (omega arith) ∙ simp (a, b)

-- bytes that read to n after v are what n's digits have behind v's
exact : (v n : ℕ) (l : List ℕ) → 1 ≤ v → digits v l ≡ Some n → shown v ++ l ≡ shown n
unfolding digits
exact v n [] h e = let z : v ≡ n = cc in append-nil (shown v) ∙ ap shown z
exact v n (d ∷ ds) h e =
    by_test d 48 (ltb d 48) refl
    (λ (a : d < 48). absurd (is_not n (simp (lt-ltb d 48 a) at e)))
    (λ (a : 48 ≤ d). by_test 57 d (ltb 57 d) refl
    (λ (b : 57 < d). absurd (is_not n (simp (le-ltb d 48 a, lt-ltb 57 d b) at e)))
    (λ (b : d ≤ 57). by_test 65535 (v * 10 + (d - 48)) (ltb 65535 (v * 10 + (d - 48))) refl
    (λ (m : 65535 < v * 10 + (d - 48)). absurd (is_not n (simp (le-ltb d 48 a, le-ltb 57 d b, lt-ltb 65535 (v * 10 + (d - 48)) m) at e)))
    (λ (m : v * 10 + (d - 48) ≤ 65535).
    let w : 48 + (d - 48) ≡ d = omega arith in
    sym (append_assoc (shown v) (d ∷ []) ds) ∙
    ap (λ (x : List ℕ). x ++ ds) (sym (shown-step v (d - 48) h (omega arith) ∙ ap (λ (y : ℕ). shown v ++ (y ∷ [])) w)) ∙
    exact (v * 10 + (d - 48)) n ds (omega arith) (simp (le-ltb d 48 a, le-ltb 57 d b, le-ltb 65535 (v * 10 + (d - 48)) m) at e))))

-- only the decimal form of a number is read as that number
pub number_exact : (f : List ℕ) (n : ℕ) → number_of f ≡ Some n → f ≡ shown n
unfolding number_of digits
number_exact [] n e = absurd (is_not n e)
number_exact (d ∷ []) n e =
    by_test d 48 (ltb d 48) refl
    (λ (a : d < 48). absurd (is_not n (simp (lt-ltb d 48 a) at e)))
    (λ (a : 48 ≤ d). by_test 57 d (ltb 57 d) refl
    (λ (b : 57 < d). absurd (is_not n (simp (le-ltb d 48 a, lt-ltb 57 d b) at e)))
    (λ (b : d ≤ 57).
    let m : ltb 65535 (0 * 10 + (d - 48)) ≡ false = le-ltb 65535 (0 * 10 + (d - 48)) (omega arith) in
    let g : Some (0 * 10 + (d - 48)) ≡ Some n = simp (le-ltb d 48 a, le-ltb 57 d b, m) at e in
    let z : 0 * 10 + (d - 48) ≡ n = cc in
    let w : d ≡ 48 + n = omega arith in
    ap (λ (y : ℕ). y ∷ []) w ∙ sym (shown-one n (omega arith))))
number_exact (d ∷ x ∷ xs) n e =
    let some : eqb (length (d ∷ x ∷ xs)) 0 ≡ false = ne_eqb (length (d ∷ x ∷ xs)) 0 (λ z. omega arith) in
    let long : ltb 1 (length (d ∷ x ∷ xs)) ≡ true = lt-ltb 1 (length (d ∷ x ∷ xs)) (omega arith) in
    by_test d 49 (ltb d 49) refl
    (λ (a : d < 49). by_test d 48 (ltb d 48) refl
    (λ (b : d < 48). absurd (is_not n (simp (some, long, ne_eqb d 48 (λ z. omega arith), lt-ltb d 48 b) at e)))
    (λ (b : 48 ≤ d). absurd (is_not n (simp (some, long, eq-eqb d 48 (omega arith)) at e))))
    (λ (a : 49 ≤ d). by_test 57 d (ltb 57 d) refl
    (λ (b : 57 < d). absurd (is_not n (simp (some, long, ne_eqb d 48 (λ z. omega arith), le-ltb d 48 (omega arith), lt-ltb 57 d b) at e)))
    (λ (b : d ≤ 57).
    let m : ltb 65535 (0 * 10 + (d - 48)) ≡ false = le-ltb 65535 (0 * 10 + (d - 48)) (omega arith) in
    let w : d ≡ 48 + (0 * 10 + (d - 48)) = omega arith in
    ap (λ (y : ℕ). y ∷ x ∷ xs) w ∙ ap (λ (l : List ℕ). l ++ (x ∷ xs)) (sym (shown-one (0 * 10 + (d - 48)) (omega arith))) ∙
    exact (0 * 10 + (d - 48)) n (x ∷ xs) (omega arith) (simp (some, long, ne_eqb d 48 (λ z. omega arith), le-ltb d 48 (omega arith), le-ltb 57 d b, m) at e)))
