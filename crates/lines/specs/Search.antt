-- Where a byte first stands in bytes.
use Rattle.std.specs.Prelude.{Bool, true, false, List, [], ◌∷◌, ℕ, suc, eqb, take, drop}

-- the place in bytes one longer, whose first is the one looked for or not
unfoldable pub index_after : (here : Bool) → (later : ℕ) → ℕ
index_after true i = 0
index_after false i = suc i

-- how many bytes stand before the first b: all of them if there is none
unfoldable pub index_of : (b : ℕ) → List ℕ → ℕ
index_of b [] = 0
index_of b (x ∷ xs) = index_after (eqb x b) (index_of b xs)

-- the bytes from a place on and before another
unfoldable pub slice : (from to : ℕ) → List ℕ → List ℕ
slice from to xs = drop from (take to xs)
