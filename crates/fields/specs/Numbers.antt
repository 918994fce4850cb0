-- "numbers are decimal, no leading zeros, those read 0 to 65535; a printed count may be larger"
use Rattle.std.specs.Prelude.{cond, ◌&&◌, List, [], ◌∷◌, ◌++◌, ℕ, zero, suc, ◌+◌, ◌-◌, ◌*◌, ◌/◌, ◌%◌, eqb, ltb, length, get_or, Option, Some, None}

-- the largest number read
abbrev pub largest : ℕ
largest = 65535

-- the number of decimal digits after those of v; the digits 0 to 9 are the bytes 48 to 57
unfoldable pub digits : (v : ℕ) → List ℕ → Option ℕ
digits v [] = Some v
digits v (d ∷ ds) =
    cond (ltb d 48) None
    (cond (ltb 57 d) None
    (cond (ltb largest (v * 10 + (d - 48))) None
    (digits (v * 10 + (d - 48)) ds)))

-- the number that a field says, if it says one: some digits, and no zero before another
unfoldable pub number_of : (field : List ℕ) → Option ℕ
number_of f =
    cond (eqb (length f) 0) None
    (cond (ltb 1 (length f) && eqb (get_or f 0 0) 48) None
    (digits 0 f))

-- v in decimal, of at most this many digits
unfoldable pub shown_in : (most v : ℕ) → List ℕ
shown_in zero v = []
shown_in (suc f) v = cond (ltb v 10) ((48 + v) ∷ []) (shown_in f (v / 10) ++ ((48 + v % 10) ∷ []))

-- v in decimal
unfoldable pub shown : (v : ℕ) → List ℕ
shown v = shown_in (suc v) v
