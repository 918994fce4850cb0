-- How far gaps, digits, words and quoted texts may reach: no further than the text.
use Rattle.std.proofs.Common.{◌≡◌, refl, subst, Bool, true, false, cond, List, [], ◌∷◌, ℕ, zero, suc, ◌+◌, ◌<◌, ◌≤◌, eqb, length, drop, get_or, length-drop, Option, Some, None, arith}
use Rattle.std.proofs.lemmas.List.Sums.{prefix_len-le-length, prefix_len-drop_yes}
use Rattle.tokens.specs.Tokens.{blank, letter, opens, shuts, wordly, gap, past, unquoted}

-- a choice has what both ways have
pub both_ways : {A : Type 0} (P : A → Type 0) (t : Bool) {x y : A} → (t ≡ true → P x) → (t ≡ false → P y) → P (cond t x y)
both_ways P true p q = p refl
both_ways P false p q = q refl

-- x is at most n behind i
abbrev pub Within : (i n x : ℕ) → Type 0
Within i n x = (i ≤ x) × (x ≤ i + n)

-- so is the place that was found, if one was
abbrev WithinSome : (i n : ℕ) → Option ℕ → Type 0
WithinSome i n (Some x) = Within i n x
WithinSome i n None = Unit {0}

-- so it is if k bytes were passed and m are left
further : (k m i n : ℕ) (x : Option ℕ) → k + m ≤ n → WithinSome (i + k) m x → WithinSome i n x
further k m i n (Some x) h w = (omega arith, omega arith)
further k m i n None h w = tt

gap_within : (bs : List ℕ) (c i : ℕ) → WithinSome i (length bs) (gap bs c i)
unfolding gap
gap_within [] zero i = (omega arith, omega arith)
gap_within [] (suc c) i = tt
gap_within (a ∷ []) zero i = both_ways (Within i 1) (blank a) (λ e. (omega arith, omega arith)) (λ e. (omega arith, omega arith))
gap_within (a ∷ []) (suc c) i = tt
gap_within (a ∷ b ∷ bs) zero i =
    let P : Option ℕ → Type 0 = WithinSome i (length (a ∷ b ∷ bs)) in
    both_ways P (opens a b)
    (λ e. further 2 (length bs) i _ _ (omega arith) (gap_within bs 1 (i + 2)))
    (λ e. both_ways P (blank a)
    (λ f. further 1 (length (b ∷ bs)) i _ _ (omega arith) (gap_within (b ∷ bs) 0 (i + 1)))
    (λ f. (omega arith, omega arith)))
gap_within (a ∷ b ∷ bs) (suc c) i =
    let P : Option ℕ → Type 0 = WithinSome i (length (a ∷ b ∷ bs)) in
    both_ways P (opens a b)
    (λ e. further 2 (length bs) i _ _ (omega arith) (gap_within bs (suc (suc c)) (i + 2)))
    (λ e. both_ways P (shuts a b)
    (λ f. further 2 (length bs) i _ _ (omega arith) (gap_within bs c (i + 2)))
    (λ f. further 1 (length (b ∷ bs)) i _ _ (omega arith) (gap_within (b ∷ bs) (suc c) (i + 1))))

-- a place found behind place i of a text lies there
found : (s : List ℕ) (i : ℕ) → i ≤ length s → {x : Option ℕ} {j : ℕ} → x ≡ Some j → WithinSome i (length (drop i s)) x → (i ≤ j) × (j ≤ length s)
found s i h e w =
    let b = subst (WithinSome i (length (drop i s))) e w in
    let l = length-drop i s in
    (omega arith, omega arith)

pub gap-bound : (s : List ℕ) (i : ℕ) → i ≤ length s → {j : ℕ} → gap (drop i s) 0 i ≡ Some j → (i ≤ j) × (j ≤ length s)
gap-bound s i h e = found s i h e (gap_within (drop i s) 0 i)

pub past_bound : (p : ℕ → Bool) (s : List ℕ) (i : ℕ) → i < length s → p (get_or s i 0) ≡ true → (i < past p s i) × (past p s i ≤ length s)
past_bound p s i h e =
    let l = length-drop i s in
    let m = prefix_len-le-length p (drop i s) in
    let n = prefix_len-drop_yes p s i 0 h e in
    (omega arith, omega arith)

-- a word goes at least past its first letter
pub word_bound : (s : List ℕ) (i : ℕ) → i < length s → letter (get_or s i 0) ≡ true → (i < past wordly s i) × (past wordly s i ≤ length s)
word_bound s i h e = past_bound wordly s i h (simp e)

quote_within : (bs : List ℕ) (i : ℕ) → WithinSome i (length bs) (unquoted bs i)
unfolding unquoted
quote_within [] i = tt
quote_within (a ∷ []) i = both_ways (WithinSome i 1) (eqb a 34) (λ e. (omega arith, omega arith)) (λ e. tt)
quote_within (a ∷ b ∷ bs) i =
    let P : Option ℕ → Type 0 = WithinSome i (length (a ∷ b ∷ bs)) in
    both_ways P (eqb a 34)
    (λ e. (omega arith, omega arith))
    (λ e. both_ways P (eqb a 92)
    (λ f. further 2 (length bs) i _ _ (omega arith) (quote_within bs (i + 2)))
    (λ f. further 1 (length (b ∷ bs)) i _ _ (omega arith) (quote_within (b ∷ bs) (i + 1))))

pub quote_bound : (s : List ℕ) (i : ℕ) → i ≤ length s → {j : ℕ} → unquoted (drop i s) i ≡ Some j → (i ≤ j) × (j ≤ length s)
quote_bound s i h e = found s i h e (quote_within (drop i s) i)
