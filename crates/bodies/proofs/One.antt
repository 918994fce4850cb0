-- Reading comes to one outcome.
use Rattle.std.proofs.Common.{◌≡◌, refl, sym, ap, subst, ◌∙◌, List, ◌∷◌, ℕ, set, Option, Some, None, arith, ap₂}
use Rattle.automaton.specs.declared.Refusal.{Refusal}
use Rattle.automaton.specs.declared.Refusal.TheVariants.{Foreign}
use Rattle.tokens.specs.declared.Sort.TheVariants as sort
use Rattle.tokens.specs.declared.Token.{Token}
use Rattle.labels.specs.Label.{Label, Labelled}
use Rattle.labels.proofs.One.{labelled-one, labelled-stands, fails-one}
use Rattle.bodies.specs.declared.Entry.{Entry}
use Rattle.bodies.specs.declared.Due.{Due}
use Rattle.bodies.specs.declared.Due.TheVariants as due
use Rattle.bodies.specs.declared.Next.{Next}
use Rattle.bodies.specs.declared.Next.TheVariants as next
use Rattle.bodies.specs.Body.{Edge, listed, accepting}
use Rattle.bodies.specs.Stands.{step}
use Rattle.bodies.specs.Walk.{Outcome, held, refused, Led, led, Astray, in_label, no_number, no_state, Walk, goes, lists, marks, edge, astray, over, stuck}

module _ (T : ℕ → Token) (n p : ℕ) where
  -- ---- an edge

  -- the label ends at one place
  same_place : {i j h : ℕ} {l m : Label} → Labelled T p i l j → Labelled T p i m h → j ≡ h
  same_place x y = (labelled-one x y).1

  led-one : {q i j h : ℕ} {e f : Edge} → Led T n p q i e j → Led T n p q i f h → (e ≡ f) × (j ≡ h)
  led-one {q = q} (led {g = g} {r = r} x v b) (led {g = h} {r = t} y w c) =
      let a = labelled-one x y in
      let at : (f : Token → ℕ) → f (T g) ≡ f (T h) = λ f. ap (λ k. f (T k)) a.1 in
      let same : sort.Number r ≡ sort.Number t = sym v.0 ∙ ap (λ k. (T k).sort) a.1 ∙ w.0 in
      let to : r ≡ t = cc in
      (ap₂ (λ l r. record { from = q; label = l; to = r }) a.0 to, sym v.1 ∙ at (λ y. y.next) ∙ w.1)

  led-stands : {q i j : ℕ} {e : Edge} {r : Refusal} → Led T n p q i e j → Astray T n p i r → ⊥
  led-stands (led x v r) (in_label f) = labelled-stands x f
  led-stands (led x v r) (no_number y d e) = d _ (ap (λ k. (T k).sort) (same_place y x) ∙ v.0)
  led-stands (led {r = r} x v b) (no_state {v = t} y d c e) =
      let same : sort.Number t ≡ sort.Number r = sym d ∙ ap (λ k. (T k).sort) (same_place y x) ∙ v.0 in
      let to : t ≡ r = cc in
      omega arith

  -- what cannot stand behind a label is refused at its place
  place : {i : ℕ} {r : Refusal} → Astray T n p i r → {g : ℕ} {l : Label} → Labelled T p i l g → r ≡ Foreign (T g).at
  place (in_label f) y = absurd (labelled-stands y f)
  place (no_number x d e) y = ap Foreign (sym e ∙ ap (λ k. (T k).at) (same_place x y))
  place (no_state x d c e) y = ap Foreign (sym e ∙ ap (λ k. (T k).at) (same_place x y))

  astray-one : {i : ℕ} {r s : Refusal} → Astray T n p i r → Astray T n p i s → r ≡ s
  astray-one (in_label f) (in_label g) = fails-one f g
  astray-one (no_number x d e) b = ap Foreign (sym e) ∙ sym (place b x)
  astray-one (no_state x d c e) b = ap Foreign (sym e) ∙ sym (place b x)
  astray-one a (no_number y d e) = place a y ∙ ap Foreign e
  astray-one a (no_state y d c e) = place a y ∙ ap Foreign e

  -- ---- a token

  -- what reading comes to behind the `[` of an edge
  data Edged (q : ℕ) (s : List Entry) (es : List Edge) (i : ℕ) (o : Outcome) : Type 0 where
    reads : {e : Edge} {j : ℕ} → Led T n p q i e j → Walk T n p (due.Edges q) s (e ∷ es) j o → Edged q s es i o
    fails : {r : Refusal} → Astray T n p i r → refused r ≡ o → Edged q s es i o

  -- what reading comes to where a token leads, with j behind it and a its place
  abbrev After : Option Next → (s : List Entry) → (es : List Edge) → (j a : ℕ) → Outcome → Type 0
  After (Some (next.To d)) s es j a o = Walk T n p d s es j o
  After (Some (next.List q)) s es j a o = Walk T n p (due.Named q) (set s q listed) es j o
  After (Some (next.Mark q)) s es j a o = Walk T n p (due.Zero q) (set s q accepting) es j o
  After (Some (next.Edge q)) s es j a o = Edged q s es j o
  After (Some next.Done) s es j a o = held s es ≡ o
  After None s es j a o = refused (Foreign a) ≡ o

  -- the table says where a token leads: to and fro
  led-to : (d : Due) (s : List Entry) (es : List Edge) (i : ℕ) (o : Outcome) {j a : ℕ} (m : Option Next) → step n d s (T i).sort ≡ m → (T i).next ≡ j → (T i).at ≡ a → After m s es j a o → After (step n d s (T i).sort) s es (T i).next (T i).at o
  led-to d s es i o m e b c k = subst (λ (m : Option Next). After m s es (T i).next (T i).at o) (sym e) (rw (b, c) k)

  led-by : (d : Due) (s : List Entry) (es : List Edge) (i : ℕ) (o : Outcome) {j a : ℕ} (m : Option Next) → step n d s (T i).sort ≡ m → (T i).next ≡ j → (T i).at ≡ a → After (step n d s (T i).sort) s es (T i).next (T i).at o → After m s es j a o
  led-by d s es i o m e b c k = rw (← b, ← c) (subst (λ (m : Option Next). After m s es (T i).next (T i).at o) e k)

  after : {d : Due} {s : List Entry} {es : List Edge} {i : ℕ} {o : Outcome} → Walk T n p d s es i o → After (step n d s (T i).sort) s es (T i).next (T i).at o
  after {d} {s} {es} {i} {o} (goes {c = c} e b k) = led-to d s es i o (Some (next.To c)) e b refl k
  after {d} {s} {es} {i} {o} (lists {q = q} e b k) = led-to d s es i o (Some (next.List q)) e b refl k
  after {d} {s} {es} {i} {o} (marks {q = q} e b k) = led-to d s es i o (Some (next.Mark q)) e b refl k
  after {d} {s} {es} {i} {o} (edge {q = q} e b l k) = led-to d s es i o (Some (next.Edge q)) e b refl (reads l k)
  after {d} {s} {es} {i} {o} (astray {q = q} e b x) = led-to d s es i o (Some (next.Edge q)) e b refl (fails x refl)
  after {d} {s} {es} {i} {o} (over e) = led-to d s es i o (Some next.Done) e refl refl refl
  after {d} {s} {es} {i} {o} (stuck e b) = led-to d s es i o None e refl b refl

  -- ---- the whole

  joined : {q i j : ℕ} {s : List Entry} {es : List Edge} {e : Edge} {o : Outcome} → Led T n p q i e j → Edged q s es i o → Walk T n p (due.Edges q) s (e ∷ es) j o
  joined {q} {i} {j} {s} {es} {e} {o} x (reads {j = h} y k) =
      let a = led-one y x in
      subst (λ (h : ℕ). Walk T n p (due.Edges q) s (e ∷ es) h o) a.1 (subst (λ (f : Edge). Walk T n p (due.Edges q) s (f ∷ es) h o) a.0 k)
  joined x (fails y e) = absurd (led-stands x y)

  strayed : {q i : ℕ} {s : List Entry} {es : List Edge} {r : Refusal} {o : Outcome} → Astray T n p i r → Edged q s es i o → refused r ≡ o
  strayed x (reads y k) = absurd (led-stands y x)
  strayed x (fails y e) = ap refused (astray-one x y) ∙ e

  pub walk_one : {d : Due} {s : List Entry} {es : List Edge} {i : ℕ} {o u : Outcome} → Walk T n p d s es i o → Walk T n p d s es i u → o ≡ u
  walk_one {d} {s} {es} {i} {o} {u} (goes {c = c} e b k) l = walk_one k (led-by d s es i u (Some (next.To c)) e b refl (after l))
  walk_one {d} {s} {es} {i} {o} {u} (lists {q = q} e b k) l = walk_one k (led-by d s es i u (Some (next.List q)) e b refl (after l))
  walk_one {d} {s} {es} {i} {o} {u} (marks {q = q} e b k) l = walk_one k (led-by d s es i u (Some (next.Mark q)) e b refl (after l))
  walk_one {d} {s} {es} {i} {o} {u} (edge {q = q} e b x k) l = walk_one k (joined x (led-by d s es i u (Some (next.Edge q)) e b refl (after l)))
  walk_one {d} {s} {es} {i} {o} {u} (astray {q = q} e b x) l = strayed x (led-by d s es i u (Some (next.Edge q)) e b refl (after l))
  walk_one {d} {s} {es} {i} {o} {u} (over e) l = led-by d s es i u (Some next.Done) e refl refl (after l)
  walk_one {d} {s} {es} {i} {o} {u} (stuck e b) l = led-by d s es i u None e refl b (after l)
