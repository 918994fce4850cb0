-- Which token may stand where in a label, and so which is the first that cannot: refusals 23 and 24.
use Rattle.std.specs.Prelude.{◌≡◌, cond, ℕ, zero, suc, ltb}
use Rattle.automaton.specs.declared.Refusal.{Refusal}
use Rattle.automaton.specs.declared.Refusal.TheVariants.{Foreign, TooDeep}
use Rattle.tokens.specs.declared.Token.{Token}
use Rattle.tokens.specs.declared.Sort.{Sort}
use Rattle.tokens.specs.declared.Sort.TheVariants as sort

-- a unit is wanted, or one has been read; with how much deeper brackets may nest, and how many are open
pub data Stage : Type 0 where
  want : (deeper opened : ℕ) → Stage
  have : (deeper opened : ℕ) → Stage

-- what a token leads to; a refusal is told by the place of the token
pub data Next : Type 0 where
  to : Stage → Next
  done : Next
  refuse : (ℕ → Refusal) → Next

-- "24, nested too deep": at the bracket that is one too many
abbrev pub opening : (d o : ℕ) → Next
opening zero o = refuse TooDeep
opening (suc d) o = to (want d (suc o))

abbrev pub closing : (d o : ℕ) → Next
closing d zero = refuse Foreign
closing d (suc o) = to (have (suc d) o)

abbrev pub ending : (o : ℕ) → Next
ending zero = done
ending (suc o) = refuse Foreign

-- "23, outside this part": whatever else stands there

-- where a unit is wanted
abbrev pub wanted : (p d o : ℕ) → Sort → Next
wanted p d o sort.True = to (have d o)
wanted p d o sort.False = to (have d o)
wanted p d o (sort.Number v) = cond (ltb v p) (to (have d o)) (refuse Foreign)
wanted p d o sort.Not = to (want d o)
wanted p d o sort.Group = opening d o
wanted p d o _ = refuse Foreign

-- behind a unit
abbrev pub behind : (d o : ℕ) → Sort → Next
behind d o sort.And = to (want d o)
behind d o sort.Or = to (want d o)
behind d o sort.GroupEnd = closing d o
behind d o sort.LabelEnd = ending o
behind d o _ = refuse Foreign

abbrev pub step : (p : ℕ) → Stage → Token → Next
step p (want d o) x = wanted p d o x.sort
step p (have d o) x = behind d o x.sort

-- From i on, at this stage, the first token that cannot stand there is refused. T gives the token at or after a place.
pub data Fails (T : ℕ → Token) (p : ℕ) : Stage → (i : ℕ) → Refusal → Type 0 where
  stuck : {s : Stage} {i : ℕ} {f : ℕ → Refusal} {r : Refusal} → step p s (T i) ≡ refuse f → f (T i).at ≡ r → Fails T p s i r
  goes : {s u : Stage} {i j : ℕ} {r : Refusal} → step p s (T i) ≡ to u → (T i).next ≡ j → Fails T p u j r → Fails T p s i r
