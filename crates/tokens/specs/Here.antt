-- What stands at a place, for grammars over tokens. T gives the token at or after a place.
use Rattle.std.specs.Prelude.{◌≡◌, ℕ}
use Rattle.tokens.specs.declared.Token.{Token}
use Rattle.tokens.specs.declared.Sort.{Sort}
use Rattle.tokens.specs.declared.Sort.TheVariants as sort

-- at i stands a token of a sort, and j is behind it
abbrev pub Here : (T : ℕ → Token) → (i : ℕ) → Sort → (j : ℕ) → Type 0
Here T i k j = ((T i).sort ≡ k) × ((T i).next ≡ j)

-- the number v stands at i, and j is behind it
abbrev pub Number : (T : ℕ → Token) → (i v j : ℕ) → Type 0
Number T i v j = Here T i (sort.Number v) j
