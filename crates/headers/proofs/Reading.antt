-- A header as the format writes it is read token by token: what reading comes to behind an item, it comes to before it.
use Rattle.std.proofs.Common.{◌≡◌, refl, false, ◌∙◌, ℕ, Some, le-leb}
use Rattle.tokens.specs.declared.Sort.{Sort}
use Rattle.tokens.specs.declared.Token.{Token}
use Rattle.tokens.specs.Here.{Here}
use Rattle.tokens.specs.Sorts.{plain}
use Rattle.headers.specs.declared.Next.TheVariants.{To}
use Rattle.headers.specs.declared.Said.{Said}
use Rattle.headers.specs.declared.Wanted.{Wanted}
use Rattle.headers.specs.declared.Wanted.TheVariants as wanted
use Rattle.headers.specs.Header.{with_states, with_start, with_props, with_acceptance, Names, no_name, name, Values, no_value, value, Acceptance, Item, states, start, props, acceptance, skipped, Items, no_item, item}
use Rattle.headers.specs.Stands.{names_after, item as item_of, step}
use Rattle.headers.specs.Walk.{Outcome, Walk, goes}

-- A header word may stand where w is wanted: one is wanted, or values of a header that is skipped may come before it.
abbrev pub Between : Wanted → Type 0
Between w = (h : Said) (k : Sort) → plain k ≡ false → step w h k ≡ item_of h k

pub item-between : Between wanted.Item
item-between h k l = refl

value-between : Between wanted.Value
value-between h k l = simp l

module _ (T : ℕ → Token) where
  -- a token leads to where v is wanted and g has been said
  pub leads-to : {w : Wanted} {h : Said} {i j : ℕ} {r : Outcome} (v : Wanted) (g : Said) → step w h (T i).sort ≡ Some (To v g) → (T i).next ≡ j → Walk T v g j r → Walk T w h i r
  leads-to v g e n k = goes e n k

  names_read : {c i j : ℕ} {h : Said} {r : Outcome} → Names T c i j → Walk T wanted.Item h j r → Walk T (names_after c) h i r
  names_read no_name k = k
  names_read {h = h} (name {c = c} x l) k = leads-to (names_after c) h (simp x.0) x.1 (names_read l k)

  values-read : {i j : ℕ} {h : Said} {r : Outcome} → Values T i j → Walk T wanted.Value h j r → Walk T wanted.Value h i r
  values-read no_value k = k
  values-read {h = h} (value x l) k = leads-to wanted.Value h (simp x.plain) x.next (values-read l k)

  module _ {r : Outcome} (h : Said) where
    acceptance-read : {i j : ℕ} → Acceptance T i j → Walk T wanted.Item (with_acceptance h) j r → Walk T wanted.Sets h i r
    acceptance-read a k =
        leads-to wanted.Inf h (simp a.sets.0) a.sets.1
        (leads-to wanted.Opening h (simp a.inf.0) a.inf.1
        (leads-to wanted.Zero h (simp a.opens.0) a.opens.1
        (leads-to wanted.Closing h (simp a.zero.0) a.zero.1
        (leads-to wanted.Item (with_acceptance h) (simp a.closes.0) a.closes.1 k))))

    module _ {w : Wanted} (b : Between w) where
      -- the header word at i leads on as the table says
      word : {i j : ℕ} {k : Sort} (v : Wanted) → Here T i k j → plain k ≡ false → item_of h (T i).sort ≡ Some (To v h) → Walk T v h j r → Walk T w h i r
      word {i = i} v x l e s = leads-to v h (b h (T i).sort (rw x.0 l) ∙ e) x.1 s

      item-read : {k : Said} {i j : ℕ} → Item T h i k j → ((v : Wanted) → Between v → Walk T v k j r) → Walk T w h i r
      item-read (states {n = n} c x q) s =
          word wanted.States x refl (simp (x.0, c))
          (leads-to wanted.Item (with_states h n) (simp q.0) q.1 (s wanted.Item item-between))
      item-read (start {q = n} c x q) s =
          word wanted.Start x refl (simp (x.0, c))
          (leads-to wanted.Item (with_start h n) (simp q.0) q.1 (s wanted.Item item-between))
      item-read (props {p = n} c x q l names) s =
          word wanted.Props x refl (simp (x.0, c))
          (leads-to (names_after n) (with_props h n) (simp (q.0, le-leb _ _ l)) q.1 (names_read names (s wanted.Item item-between)))
      item-read (acceptance c x a) s = word wanted.Sets x refl (simp (x.0, c)) (acceptance-read a (s wanted.Item item-between))
      item-read (skipped x q) s = word wanted.Value x refl (simp x.0) (values-read q (s wanted.Value value-between))

  pub items-read : {h m : Said} {i j : ℕ} {r : Outcome} → Items T h i m j → ((v : Wanted) → Between v → Walk T v m j r) → (w : Wanted) → Between w → Walk T w h i r
  items-read no_item s w b = s w b
  items-read {h = h} (item x l) s w b = item-read h b x (λ v d. items-read l s v d)
