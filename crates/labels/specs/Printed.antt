-- A label written out, with brackets around each `&` and `|`.
use Rattle.std.specs.Prelude.{List, [], ◌∷◌, ◌++◌, ℕ, zero, suc, ◌<◌}
use Rattle.tokens.specs.declared.Token.{Token}
use Rattle.tokens.specs.declared.Sort.{Sort}
use Rattle.tokens.specs.declared.Sort.TheVariants as sort
use Rattle.tokens.specs.Here.{Here, Number}
use Rattle.labels.specs.Label.{Label, always, never, prop, not, both, either}

-- what a label tells of a token
pub data Sign : Type 0 where
  sign : Sort → Sign
  number : (value : ℕ) → Sign

-- two labels and the sign that joins them, in brackets
abbrev pub in_brackets : List Sign → Sort → List Sign → List Sign
in_brackets xs k ys = sign sort.Group ∷ (xs ++ (sign k ∷ (ys ++ (sign sort.GroupEnd ∷ []))))

-- the signs of a label
unfoldable pub print : Label → List Sign
print always = sign sort.True ∷ []
print never = sign sort.False ∷ []
print (prop i) = number i ∷ []
print (not l) = sign sort.Not ∷ print l
print (both l m) = in_brackets (print l) sort.And (print m)
print (either l m) = in_brackets (print l) sort.Or (print m)

-- its propositions are below p, and its brackets nest d deep at most
unfoldable pub Fits : (p d : ℕ) → Label → Type 0
Fits p d always = Unit {0}
Fits p d never = Unit {0}
Fits p d (prop i) = i < p
Fits p d (not l) = Fits p d l
Fits p zero (both l m) = ⊥
Fits p (suc d) (both l m) = Fits p d l × Fits p d m
Fits p zero (either l m) = ⊥
Fits p (suc d) (either l m) = Fits p d l × Fits p d m

-- the sign stands at i, and j is behind it
abbrev pub Shows : (ℕ → Token) → (i : ℕ) → Sign → (j : ℕ) → Type 0
Shows T i (sign k) j = Here T i k j
Shows T i (number v) j = Number T i v j

-- the signs stand from i to j
pub data Spelt (T : ℕ → Token) : (i : ℕ) → List Sign → (j : ℕ) → Type 0 where
  end : {i : ℕ} → Spelt T i [] i
  one : {i h j : ℕ} {x : Sign} {xs : List Sign} → Shows T i x h → Spelt T h xs j → Spelt T i (x ∷ xs) j
