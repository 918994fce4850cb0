-- How a unit is made: of an atom or a label in brackets, behind a row of `!`. And how a label ends.
use Rattle.std.proofs.Common.{◌≡◌, ◌≢◌, refl, sym, ap, ◌∙◌, Bool, true, false, cond, not as flip, ℕ, suc, ◌+◌, ◌<◌, ◌≤◌, Result, Ok, Err, bit_xor}
use Rattle.automaton.specs.declared.Refusal.{Refusal}
use Rattle.automaton.specs.declared.Refusal.TheVariants.{Foreign, TooDeep}
use Rattle.tokens.specs.declared.Sort.{Sort}
use Rattle.tokens.specs.declared.Sort.TheVariants as sort
use Rattle.tokens.specs.declared.Token.{Token}
use Rattle.tokens.specs.Here.{Here}
use Rattle.tokens.specs.Sorts.{is}
use Rattle.tokens.proofs.Sorts.{is-true, is-false}
use Rattle.labels.specs.declared.Lettered.{Lettered}
use Rattle.labels.specs.Label.{Label, always, never, prop, holds, unit, whole, Is, is_true, is_false, is_prop, is_not, is_group, deepest}
use Rattle.labels.specs.Stands.{want, refuse, opening, closing, ending, behind, step, stuck, goes}
use Rattle.labels.specs.Letters.{flag, Agrees, Lettering}
use Rattle.labels.specs.Parts.{Found, Reading, Past, Nots, none, more, turned_of, ended_of, Atom}
use Rattle.labels.proofs.Masks.{agrees-true, agrees-false, agrees-not}
use Rattle.labels.proofs.Walk.{Leads, stays, moves, joined, pushes, leads, want-not, want-group, want_open, want_foreign}

-- a token that was read, told of the text
pub here : (T : ℕ → Token) (i : ℕ) {k : Sort} {x : Token} → x ≡ T i → x.sort ≡ k → Here T i k x.next
here T i e f = (sym (ap (λ (y : Token). y.sort) e) ∙ f, sym (ap (λ (y : Token). y.next) e))

-- ---- a row of `!`

-- the truth behind a row of `!`
turn : (odd : Bool) → Bool → Bool
turn b x = cond b (flip x) x

turn-not : (b x : Bool) → turn b (flip x) ≡ turn (flip b) x
unfolding turn
turn-not true true = refl
turn-not true false = refl
turn-not false x = refl

-- a unit that is true where another, behind a row of `!`, makes it so
record Turned (T : ℕ → Token) (p d i j : ℕ) (b : Bool) (l : Label) : Type 0 where
  label : Label
  is : Is T p unit d i label j
  holds_so : (a : ℕ) → holds label a ≡ turn b (holds l a)

turned : {T : ℕ → Token} {p d i h j : ℕ} {b : Bool} {l : Label} → Nots T i b h → Is T p unit d h l j → Turned T p d i j b l
unfolding holds turn
turned {l = l} none u = record { label = l; is = u; holds_so = λ a. refl }
turned {l = l} (more {odd = b} r e) u =
    let v = turned r (is_not e u) in
    record { label = v.label; is = v.is; holds_so = λ a. v.holds_so a ∙ turn-not b (holds l a) }

row-leads : {T : ℕ → Token} {p d i h o : ℕ} {b : Bool} → Nots T i b h → Leads T p (want d o) i (want d o) h
row-leads none = stays
row-leads {T} {p} {d} {o = o} (more {h = h} r e) = joined (row-leads r) (moves (want-not p d o (T h) e.0) e.1 stays)

turn-agrees : (b : Bool) (m : ℕ) (l k : Label) → Agrees m l → ((a : ℕ) → holds k a ≡ turn b (holds l a)) → Agrees (cond b (bit_xor m 65535) m) k
unfolding holds turn
turn-agrees true m l k p q a h = agrees-not m l p a h ∙ ap flag (sym (q a))
turn-agrees false m l k p q a h = p a h ∙ ap flag (sym (q a))

-- a unit behind a row of `!` is a unit, and where none stands there, none does
module _ (T : ℕ → Token) (p d i h : ℕ) (b : Bool) (g : Nots T i b h) where
  pub unit-turned : (l : Lettered) → Found T p unit d h l.set l.next → Found T p unit d i (turned_of b l).set l.next
  unit-turned l f =
      let v = turned g f.is in
      record { label = v.label; is = v.is; agrees = turn-agrees b l.set f.label v.label f.agrees v.holds_so }

  pub unit-strayed : {r : Refusal} → Reading T p unit d h (Err r) → Reading T p unit d i (Err r)
  unit-strayed f = λ o. pushes (row-leads g) (f o)

-- ---- atoms

module _ (p : ℕ) (x : Token) where
  pub atom-true : x.sort ≡ sort.True → Atom p x (Ok (record { set = 65535; next = x.next }))
  atom-true e T d i q = record { label = always; is = is_true (here T i (sym q) e); agrees = agrees-true }

  pub atom-false : x.sort ≡ sort.False → Atom p x (Ok (record { set = 0; next = x.next }))
  atom-false e T d i q = record { label = never; is = is_false (here T i (sym q) e); agrees = agrees-false }

  pub atom-prop : (m v : ℕ) → x.sort ≡ sort.Number v → v < p → Agrees m (prop v) → Atom p x (Ok (record { set = m; next = x.next }))
  atom-prop m v e l a T d i q = record { label = prop v; is = is_prop (here T i (sym q) e) l; agrees = a }

  pub atom_foreign : x.sort ≢ sort.True → x.sort ≢ sort.False → ((v : ℕ) → x.sort ≡ sort.Number v → p ≤ v) → x.sort ≢ sort.Not → x.sort ≢ sort.Group → Atom p x (Err (Foreign x.at))
  atom_foreign a b c e f T d i q = λ o. stuck (ap (λ (y : Token). step p (want d o) y) q ∙ want_foreign p d o x.sort a b c e f) (ap (λ (y : Token). Foreign y.at) q)

-- ---- labels in brackets

choose : (P : Result Lettered Refusal → Type 0) (t : Bool) (x y : Result Lettered Refusal) → (t ≡ true → P x) → (t ≡ false → P y) → P (cond t x y)
choose P true x y p q = p refl
choose P false x y p q = q refl

-- behind a whole label a token cannot stand, where `)` and `]` cannot if it is one of them
past_foreign : (d o : ℕ) (k : Sort) → Past k → (k ≡ sort.GroupEnd → closing d o ≡ refuse Foreign) → (k ≡ sort.LabelEnd → ending o ≡ refuse Foreign) → behind d o k ≡ refuse Foreign
past_foreign d o sort.And k close last = absurd (k.0 refl)
past_foreign d o sort.Or k close last = absurd (k.1 refl)
past_foreign d o sort.GroupEnd k close last = close refl
past_foreign d o sort.LabelEnd k close last = last refl
past_foreign d o _ k close last = refl

-- a label in brackets is a unit, and where none stands in them, no unit does
module _ (T : ℕ → Token) (p e d i g : ℕ) (q : e + 1 ≡ d) (h : Here T i sort.Group g) where
  pub grouped : (l : Lettered) → Found T p whole e g l.set l.next → Past (T l.next).sort → Reading T p unit d i (ended_of T sort.GroupEnd l)
  grouped l f s =
      choose (λ x. Reading T p unit d i x) (is (T l.next).sort sort.GroupEnd) _ _
      (λ t. record { label = f.label; is = is_group q h f.is (is-true _ _ t, refl); agrees = f.agrees })
      (λ t o.
      let cannot = past_foreign e (suc o) (T l.next).sort s (λ n. absurd (is-false _ _ t n)) (λ n. refl) in
      goes (want_open p d o (T i) q h.0) h.1 (pushes (leads f.is (suc o)) (stuck cannot refl)))

  pub group-strayed : {r : Refusal} → Reading T p whole e g (Err r) → Reading T p unit d i (Err r)
  group-strayed f = λ o. goes (want_open p d o (T i) q h.0) h.1 (f (suc o))

-- a bracket that is one too many
pub too_deep : (T : ℕ → Token) (p d i : ℕ) {x : Token} → x ≡ T i → d ≡ 0 → x.sort ≡ sort.Group → Reading T p unit d i (Err (TooDeep x.at))
too_deep T p d i e q g =
    λ o. stuck (want-group p d o (T i) (here T i e g).0 ∙ ap (λ (x : ℕ). opening x o) q) (ap (λ (y : Token). TooDeep y.at) (sym e))

-- ---- a label that `]` ends

pub lettering : (T : ℕ → Token) (p i : ℕ) (l : Lettered) → Found T p whole deepest i l.set l.next → Past (T l.next).sort → Lettering T p i (ended_of T sort.LabelEnd l)
lettering T p i l f s =
    choose (λ x. Lettering T p i x) (is (T l.next).sort sort.LabelEnd) _ _
    (λ t. record { label = f.label; labelled = record { end = l.next; is = f.is; ended = (is-true _ _ t, refl) }; agrees = f.agrees })
    (λ t. pushes (leads f.is 0) (stuck (past_foreign deepest 0 (T l.next).sort s (λ n. refl) (λ n. absurd (is-false _ _ t n))) refl))
