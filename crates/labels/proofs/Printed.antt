-- A label that is written out is read back as itself, and so `letters` answers its letters.
use Rattle.std.proofs.Common.{List, [], ◌∷◌, ◌++◌, ℕ, zero, suc, add-one, Result}
use Rattle.automaton.specs.declared.Refusal.{Refusal}
use Rattle.tokens.specs.declared.Token.{Token}
use Rattle.tokens.specs.declared.Sort.{Sort}
use Rattle.tokens.specs.declared.Sort.TheVariants as sort
use Rattle.labels.specs.declared.Lettered.{Lettered}
use Rattle.tokens.specs.Here.{Here}
use Rattle.labels.specs.Label.{Label, always, never, prop, not, both, either, unit, Is, is_true, is_false, is_prop, is_not, is_group, is_unit, is_and, is_chain, is_or, deepest, Labelled}
use Rattle.labels.specs.Letters.{Lettering}
use Rattle.labels.specs.Printed.{Sign, sign, print, Fits, Spelt, end, one}
use Rattle.labels.proofs.Exact.{LettersOf, exact}

-- ---- a text is cut where its signs are

record Parts (T : ℕ → Token) (i j : ℕ) (xs ys : List Sign) : Type 0 where
  mid : ℕ
  fore : Spelt T i xs mid
  aft : Spelt T mid ys j

-- two lists of signs, what stands between them and the bracket behind
record Joined (T : ℕ → Token) (i j : ℕ) (k : Sort) (xs ys : List Sign) : Type 0 where
  left : ℕ
  right : ℕ
  stop : ℕ
  first : Spelt T i xs left
  between : Here T left k right
  second : Spelt T right ys stop
  behind : Here T stop sort.GroupEnd j

module _ {T : ℕ → Token} where
  parts : (xs ys : List Sign) {i j : ℕ} → Spelt T i (xs ++ ys) j → Parts T i j xs ys
  parts [] ys {i} s = record { mid = i; fore = end; aft = s }
  parts (x ∷ xs) ys (one h s) = let r = parts xs ys s in record { mid = r.mid; fore = one h r.fore; aft = r.aft }

  last : {i j : ℕ} {k : Sort} → Spelt T i (sign k ∷ []) j → Here T i k j
  last (one h end) = h

  joined : {i j : ℕ} {k : Sort} (xs ys : List Sign) → Spelt T i (xs ++ (sign k ∷ (ys ++ (sign sort.GroupEnd ∷ [])))) j → Joined T i j k xs ys
  joined {i} {j} {k} xs ys s = let r = parts xs (sign k ∷ (ys ++ (sign sort.GroupEnd ∷ []))) s in rest r.fore r.aft
    where
      rest : {g : ℕ} → Spelt T i xs g → Spelt T g (sign k ∷ (ys ++ (sign sort.GroupEnd ∷ []))) j → Joined T i j k xs ys
      rest {g} f (one {h = h} x a) =
          let r = parts ys (sign sort.GroupEnd ∷ []) a in
          record { left = g; right = h; stop = r.mid; first = f; between = x; second = r.fore; behind = last r.aft }

  -- ---- the grammar has it

  pub printed : {p : ℕ} (l : Label) (d : ℕ) {i j : ℕ} → Fits p d l → Spelt T i (print l) j → Is T p unit d i l j
  unfolding print Fits
  printed always d f (one h end) = is_true h
  printed never d f (one h end) = is_false h
  printed (prop v) d f (one h end) = is_prop h f
  printed (not l) d f (one h s) = is_not h (printed l d f s)
  printed (both l m) zero f s = absurd f
  printed (both l m) (suc d) f (one h s) =
      let r = joined (print l) (print m) s in
      is_group (add-one d) h (is_chain (is_and (printed l d f.0 r.first) r.between (is_unit (printed m d f.1 r.second)))) r.behind
  printed (either l m) zero f s = absurd f
  printed (either l m) (suc d) f (one h s) =
      let r = joined (print l) (print m) s in
      is_group (add-one d) h (is_or (is_unit (printed l d f.0 r.first)) r.between (is_chain (is_unit (printed m d f.1 r.second)))) r.behind

  -- a label and `]`
  pub printed-labelled : {p i j : ℕ} (l : Label) → Fits p deepest l → Spelt T i (print l ++ (sign sort.LabelEnd ∷ [])) j → Labelled T p i l j
  printed-labelled l f s =
      let r = parts (print l) (sign sort.LabelEnd ∷ []) s in
      record { end = r.mid; is = is_chain (is_unit (printed l deepest f r.fore)); ended = last r.aft }

-- what `letters` answers where a label is written out
pub read_back : (T : ℕ → Token) (p i j : ℕ) (answer : Result Lettered Refusal) (l : Label) → Fits p deepest l → Spelt T i (print l ++ (sign sort.LabelEnd ∷ [])) j → Lettering T p i answer → LettersOf l j answer
read_back T p i j answer l f s read = exact T p i answer read (printed-labelled l f s)
