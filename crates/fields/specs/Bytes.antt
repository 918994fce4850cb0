-- Bytes of a text: those of a word, whether bytes are those, the two that part lines and fields, and bytes laid into a buffer.
use Rattle.std.specs.Prelude.{Bool, true, false, cond, List, [], ◌∷◌, ℕ, ◌+◌, ◌-◌, min, eqb, length}
use Prim.Native.Char.{code}
use Prim.Native.String.{String, [] as ε, ◌∷◌ as ◌then◌}
use Rattle.std.proofs.lemmas.List.Edits.{sets}

-- the bytes of a quoted text
abbrev pub bytes_of : String → List ℕ
bytes_of ε = []
bytes_of (c then s) = code c ∷ bytes_of s

-- are the two the same bytes?
unfoldable pub same : (xs ys : List ℕ) → Bool
same [] [] = true
same [] (y ∷ ys) = false
same (x ∷ xs) [] = false
same (x ∷ xs) (y ∷ ys) = cond (eqb x y) (same xs ys) false

-- "Lines end in a newline; fields are parted by tabs"
abbrev pub newline : ℕ
newline = 10

abbrev pub tab : ℕ
tab = 9

-- a buffer after bytes were put into it from a place on: past its end there is nothing to write to
unfoldable pub laid : (at : ℕ) → (bytes out : List ℕ) → List ℕ
laid at bytes out = sets out at bytes

-- the place past them: as far as the buffer goes
unfoldable pub stop : (at : ℕ) → (bytes out : List ℕ) → ℕ
stop at bytes out = at + min (length bytes) (length out - at)
