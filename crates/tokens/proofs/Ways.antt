-- What a token can be: nothing at the end, wrong, a number, or another sort that goes on within the text. What all these have, each token has.
use Rattle.std.proofs.Common.{◌≡◌, refl, sym, ◌∙◌, Bool, true, false, cond, ◌&&◌, List, [], ◌∷◌, ℕ, ◌+◌, ◌-◌, ◌*◌, ◌≤◌, ◌<◌, eqb, leb, ltb, min, length, take, drop, get_or, length-take, length-drop, ap, bytes_eq, Option, Some, None, arith, true≢false, ltb-false, leb-true, leb-false, eqb-true}
use Rattle.std.proofs.lemmas.Slice.Eq.{bytes_eq-Decides}
use Rattle.std.proofs.Math.ListN.{get_or-eq_default}
use Rattle.fields.specs.Bytes.{bytes_of}
use Rattle.fields.specs.Numbers.{digits, largest, number_of}
use Rattle.fields.proofs.Tests.{by_test}
use Rattle.tokens.specs.declared.Sort.{Sort}
use Rattle.tokens.specs.declared.Sort.TheVariants as sort
use Rattle.tokens.specs.declared.Token.{Token}
use Rattle.tokens.specs.Tokens.{begins, behind, dashed, digit, gap, head_sort, letter, lower, numeral, past, piece, quoted_to, sign_sort, sorted, token_at, token_from, unquoted, word_sort, worded, wordly, wrong_at}
use Rattle.tokens.proofs.Bounds.{both_ways, past_bound, quote_bound, word_bound}

-- ---- sorts of tokens that stand in the text and are no numbers, or that are wrong

abbrev pub other : Sort → Bool
other (sort.Number v) = false
other sort.Nothing = false
other _ = true

pub record Other (k : Sort) : Type 0 where
  pub is_other : other k ≡ true

told : (k : Sort) → other k ≡ true → Other k
told k e = record { is_other = e }

pub other-nothing : (k : Sort) → Other k → k ≡ sort.Nothing → ⊥
other-nothing k o e = true≢false (sym o.is_other ∙ simp e)

pub other-number : (k : Sort) (v : ℕ) → Other k → k ≡ sort.Number v → ⊥
other-number k v o e = true≢false (sym o.is_other ∙ simp e)

choice : (t : Bool) {k l : Sort} → Other k → Other l → Other (cond t k l)
choice t p q = both_ways Other t (λ e. p) (λ e. q)

word_other : (w : List ℕ) → Other (word_sort w)
word_other w =
    choice (bytes_eq w (bytes_of "t")) (told sort.True refl)
    (choice (bytes_eq w (bytes_of "f")) (told sort.False refl)
    (choice (bytes_eq w (bytes_of "v1")) (told sort.Version refl)
    (choice (bytes_eq w (bytes_of "Inf")) (told sort.Inf refl)
    (told sort.Name refl))))

head_other : (w : List ℕ) → Other (head_sort w)
head_other w =
    choice (bytes_eq w (bytes_of "HOA")) (told sort.Hoa refl)
    (choice (bytes_eq w (bytes_of "States")) (told sort.States refl)
    (choice (bytes_eq w (bytes_of "Start")) (told sort.Start refl)
    (choice (bytes_eq w (bytes_of "AP")) (told sort.Ap refl)
    (choice (bytes_eq w (bytes_of "Acceptance")) (told sort.Acceptance refl)
    (choice (bytes_eq w (bytes_of "State")) (told sort.State refl)
    (choice (lower (get_or w 0 0)) (told sort.Minor refl)
    (told sort.Wrong refl)))))))

sign_other : (b : ℕ) → Other (sign_sort b)
sign_other b =
    choice (eqb b 33) (told sort.Not refl)
    (choice (eqb b 38) (told sort.And refl)
    (choice (eqb b 124) (told sort.Or refl)
    (choice (eqb b 40) (told sort.Group refl)
    (choice (eqb b 41) (told sort.GroupEnd refl)
    (choice (eqb b 91) (told sort.Label refl)
    (choice (eqb b 93) (told sort.LabelEnd refl)
    (choice (eqb b 123) (told sort.Marks refl)
    (choice (eqb b 125) (told sort.MarksEnd refl)
    (told sort.Wrong refl)))))))))

-- ---- numbers: at most the largest

abbrev Most : Option ℕ → Type 0
Most (Some v) = v ≤ largest
Most None = Unit {0}

digits-most : (ds : List ℕ) (v : ℕ) → v ≤ largest → Most (digits v ds)
unfolding digits
digits-most [] v h = h
digits-most (d ∷ ds) v h =
    both_ways Most (ltb d 48)
    (λ e. tt)
    (λ e. both_ways Most (ltb 57 d)
    (λ e. tt)
    (λ e. both_ways Most (ltb largest (v * 10 + (d - 48)))
    (λ e. tt)
    (λ e. digits-most ds (v * 10 + (d - 48)) (ltb-false largest (v * 10 + (d - 48)) e))))

number-most : (f : List ℕ) → Most (number_of f)
unfolding number_of
number-most f =
    both_ways Most (eqb (length f) 0)
    (λ e. tt)
    (λ e. both_ways Most (ltb 1 (length f) && eqb (get_or f 0 0) 48)
    (λ e. tt)
    (λ e. digits-most f 0 (omega arith)))

-- ---- bytes that stand in the text

-- a byte that is not 0 does
byte_within : (s : List ℕ) (j : ℕ) → (get_or s j 0 ≡ 0 → ⊥) → j < length s
byte_within s j n = by_test j (length s) (ltb j (length s)) refl (λ h. h) (λ h. absurd (n (get_or-eq_default s 0 h)))

-- bytes that begin there do
begins-within : (s bs : List ℕ) (i : ℕ) → begins s i bs ≡ true → length bs ≤ length s - i
begins-within s bs i e =
    let same = (bytes_eq-Decides bs (take (length bs) (drop i s))).0 e in
    let n : length (take (length bs) (drop i s)) ≡ min (length bs) (length s - i) = simp (length-take, length-drop) in
    omega (arith, ap length same)

-- ---- the ways

-- P is so of all that may stand at i
pub record Each (P : Token → Type 0) (s : List ℕ) (i : ℕ) : Type 0 where
  pub none : length s ≤ i → P (sorted sort.Nothing i i)
  pub bad : P (wrong_at i)
  pub number : (v j : ℕ) → v ≤ largest → i < j → j ≤ length s → P (sorted (sort.Number v) i j)
  pub other : (k : Sort) (j : ℕ) → Other k → i < j → j ≤ length s → P (sorted k i j)

module _ (P : Token → Type 0) (s : List ℕ) (i : ℕ) (each : Each P s i) where
  numeral_ways : (n : Option ℕ) (j : ℕ) → Most n → i < j → j ≤ length s → P (numeral n i j)
  numeral_ways (Some v) j m a b = each.number v j m a b
  numeral_ways None j m a b = each.bad

  worded_ways : (j : ℕ) → i < j → j ≤ length s → P (worded s i j)
  worded_ways j a b =
      both_ways P (eqb (get_or s j 0) 58)
      (λ e.
      let colon = eqb-true (get_or s j 0) 58 e in
      let within = byte_within s j (λ n. omega arith) in
      each.other (head_sort (piece s i j)) (j + 1) (head_other (piece s i j)) (omega arith) (omega arith))
      (λ e. each.other (word_sort (piece s i j)) j (word_other (piece s i j)) a b)

  quoted_ways : (x : Option ℕ) → ((j : ℕ) → x ≡ Some j → (i < j) × (j ≤ length s)) → P (quoted_to i x)
  quoted_ways (Some j) w = let b = w j refl in each.other sort.Quoted j (told sort.Quoted refl) b.0 b.1
  quoted_ways None w = each.bad

  dashed_ways : i < length s → P (dashed s i)
  dashed_ways h =
      both_ways P (begins s i (bytes_of "--BODY--"))
      (λ e. let b = begins-within s (bytes_of "--BODY--") i e in each.other sort.Body (i + 8) (told sort.Body refl) (omega arith) (omega arith))
      (λ _. both_ways P (begins s i (bytes_of "--END--"))
      (λ e. let b = begins-within s (bytes_of "--END--") i e in each.other sort.End (i + 7) (told sort.End refl) (omega arith) (omega arith))
      (λ _. each.bad))

  pub token_ways : P (token_at s i)
  unfolding token_at
  token_ways =
      let b = get_or s i 0 in
      both_ways P (leb (length s) i)
      (λ e. each.none (leb-true (length s) i e))
      (λ e.
      let h = leb-false (length s) i e in
      both_ways P (digit b)
      (λ f. let w = past_bound digit s i h f in numeral_ways (number_of (piece s i (past digit s i))) (past digit s i) (number-most (piece s i (past digit s i))) w.0 w.1)
      (λ _. both_ways P (letter b)
      (λ f. let w = word_bound s i h f in worded_ways (past wordly s i) w.0 w.1)
      (λ _. both_ways P (eqb b 34)
      (λ _. quoted_ways (unquoted (drop (i + 1) s) (i + 1)) (λ j n. let w = quote_bound s (i + 1) (omega arith) n in (omega arith, omega arith)))
      (λ _. both_ways P (eqb b 45)
      (λ _. dashed_ways h)
      (λ _. each.other (sign_sort b) (i + 1) (sign_other b) (omega arith) (omega arith))))))

pub from_ways : (P : Token → Type 0) (s : List ℕ) (i : ℕ) → P (wrong_at (length s)) → ((j : ℕ) → gap (drop i s) 0 i ≡ Some j → Each P s j) → P (token_from s i)
unfolding token_from
from_ways P s i unclosed each = go (gap (drop i s) 0 i) refl
  where
    go : (g : Option ℕ) → gap (drop i s) 0 i ≡ g → P (behind s g)
    go (Some j) e = token_ways P s j (each j e)
    go None e = unclosed
