-- Where a token leads: only a token leads on, the place behind it is further on within the text, and a state that is named is one of the body's.
use Rattle.std.proofs.Common.{◌≡◌, refl, sym, subst, ◌∙◌, Bool, true, false, cond, ◌&&◌, List, ℕ, ◌≤◌, ◌<◌, eqb, ltb, length, get_or, Option, Some, None, arith, ltb-true}
use Rattle.tokens.specs.declared.Sort.{Sort}
use Rattle.tokens.specs.declared.Sort.TheVariants as sort
use Rattle.tokens.specs.Sorts.{stands}
use Rattle.tokens.specs.Tokens.{token_from}
use Rattle.tokens.proofs.Reach.{token_on, value-most}
use Rattle.labels.proofs.Reach.{here_on, labelled-on}
use Rattle.bodies.specs.declared.Entry.{Entry}
use Rattle.bodies.specs.declared.Due.{Due}
use Rattle.bodies.specs.declared.Due.TheVariants as due
use Rattle.bodies.specs.declared.Next.{Next}
use Rattle.bodies.specs.declared.Next.TheVariants as next
use Rattle.bodies.specs.Body.{Edge, unlisted, is_unlisted}
use Rattle.bodies.specs.Stands.{block_next, edges_next, signed_next, named_next, closed_next, braces_next, step}
use Rattle.bodies.specs.Walk.{Led, led}

-- ---- the place behind a token

-- there is more to read
abbrev pub Onward : Next → Type 0
Onward next.Done = ⊥
Onward _ = Unit

-- what is no token leads nowhere, but that of the end
at_wrong : (n : ℕ) (d : Due) (s : List Entry) → step n d s sort.Wrong ≡ None
at_wrong n due.Block s = refl
at_wrong n _ s = refl

at_nothing : (n : ℕ) (d : Due) (s : List Entry) {m : Next} → step n d s sort.Nothing ≡ Some m → Onward m → ⊥
at_nothing n due.Nothing s e on = let z : next.Done ≡ _ = cc in subst Onward (sym z) on
at_nothing n _ s {m} e on = let z : ◌≡◌ {A = Option Next} None (Some m) = e in absurd (cc)

-- what leads on stands in the text
step_stands : (n : ℕ) (d : Due) (s : List Entry) (k : Sort) {m : Next} → step n d s k ≡ Some m → Onward m → stands k ≡ true
step_stands n d s sort.Nothing e on = absurd (at_nothing n d s e on)
step_stands n d s sort.Wrong {m} e on = let z : ◌≡◌ {A = Option Next} None (Some m) = sym (at_wrong n d s) ∙ e in absurd (cc)
step_stands n d s _ e on = refl

pub leads-on : (text : List ℕ) (i n : ℕ) (d : Due) (s : List Entry) (m : Next) → i ≤ length text → step n d s (token_from text i).sort ≡ Some m → Onward m
    → (i < (token_from text i).next) × ((token_from text i).next ≤ length text)
leads-on text i n d s m l e on = token_on text i l (step_stands n d s (token_from text i).sort e on)

-- an edge goes on too
pub led_on : (text : List ℕ) {n p q i j : ℕ} {e : Edge} → Led (token_from text) n p q i e j → i ≤ length text → (i < j) × (j ≤ length text)
led_on text (led {g = g} l x r) h =
    let at = labelled-on text l h in
    let on = here_on text x refl at.1 in
    (omega arith, on.1)

-- ---- the states that are named

-- one of n states, with an entry on the sheet
abbrev pub Known : (n q : ℕ) → Type 0
Known n q = (q < n) × (q < 65536)

abbrev pub Knows : (n : ℕ) → Due → Type 0
Knows n due.Block = Unit
Knows n due.State = Unit
Knows n (due.Named q) = Known n q
Knows n (due.Signed q) = Known n q
Knows n (due.Braces q) = Known n q
Knows n (due.Zero q) = Known n q
Knows n (due.Edges q) = Known n q
Knows n due.Nothing = Unit

abbrev pub KnowsNext : (n : ℕ) → Next → Type 0
KnowsNext n (next.To d) = Knows n d
KnowsNext n (next.List q) = Known n q
KnowsNext n (next.Mark q) = Known n q
KnowsNext n (next.Edge q) = Known n q
KnowsNext n next.Done = Unit

abbrev KnowsLed : (n : ℕ) → Option Next → Type 0
KnowsLed n (Some m) = KnowsNext n m
KnowsLed n None = Unit

module _ (n : ℕ) where
  chosen : (b : Bool) (m : Next) → KnowsNext n m → KnowsLed n (cond b (Some m) None)
  chosen true m k = k
  chosen false m k = tt

  block_knows : (k : Sort) → KnowsLed n (block_next k)
  block_knows sort.State = tt
  block_knows sort.End = tt
  block_knows _ = tt

  edges_knows : (q : ℕ) (k : Sort) → Known n q → KnowsLed n (edges_next q k)
  edges_knows q sort.Label h = h
  edges_knows q k h = block_knows k

  signed_knows : (q : ℕ) (k : Sort) → Known n q → KnowsLed n (signed_next q k)
  signed_knows q sort.Marks h = h
  signed_knows q k h = edges_knows q k h

  named_knows : (q : ℕ) (k : Sort) → Known n q → KnowsLed n (named_next q k)
  named_knows q sort.Quoted h = h
  named_knows q k h = signed_knows q k h

  closed_knows : (q : ℕ) (k : Sort) → Known n q → KnowsLed n (closed_next q k)
  closed_knows q sort.MarksEnd h = h
  closed_knows q _ h = tt

  braces_knows : (q : ℕ) (k : Sort) → Known n q → KnowsLed n (braces_next q k)
  braces_knows q (sort.Number v) h = chosen (eqb v 0) (next.Mark q) h
  braces_knows q k h = closed_knows q k h

  listed_knows : (q : ℕ) (b c : Bool) → ltb q n ≡ b → q < 65536 → KnowsLed n (cond (b && c) (Some (next.List q)) None)
  listed_knows q true true e l = (ltb-true q n e, l)
  listed_knows q true false e l = tt
  listed_knows q false c e l = tt

  state_knows : (s : List Entry) (k : Sort) → ((v : ℕ) → k ≡ sort.Number v → v < 65536) → KnowsLed n (step n due.State s k)
  state_knows s (sort.Number q) l = listed_knows q (ltb q n) (is_unlisted (get_or s q unlisted)) refl (l q refl)
  state_knows s _ l = tt

  over_knows : (s : List Entry) (k : Sort) → KnowsLed n (step n due.Nothing s k)
  over_knows s sort.Nothing = tt
  over_knows s _ = tt

  step_knows : (d : Due) (s : List Entry) (k : Sort) → Knows n d → ((v : ℕ) → k ≡ sort.Number v → v < 65536) → KnowsLed n (step n d s k)
  step_knows due.Block s k h l = block_knows k
  step_knows due.State s k h l = state_knows s k l
  step_knows (due.Named q) s k h l = named_knows q k h
  step_knows (due.Signed q) s k h l = signed_knows q k h
  step_knows (due.Braces q) s k h l = braces_knows q k h
  step_knows (due.Zero q) s k h l = closed_knows q k h
  step_knows (due.Edges q) s k h l = edges_knows q k h
  step_knows due.Nothing s k h l = over_knows s k

-- a number of a text has an entry on the sheet
pub number-low : (text : List ℕ) (i v : ℕ) → (token_from text i).sort ≡ sort.Number v → v < 65536
number-low text i v e = omega (arith, value-most text i e)

pub leads-known : (text : List ℕ) (i n : ℕ) (d : Due) (s : List Entry) (m : Next) → Knows n d → step n d s (token_from text i).sort ≡ Some m → KnowsNext n m
leads-known text i n d s m k e = subst (KnowsLed n) e (step_knows n d s (token_from text i).sort k (number-low text i))
