-- A label leaves no choice: what stands from a place on is one label, and not refused too; and a refusal is one.
use Rattle.std.proofs.Common.{◌≡◌, ◌≢◌, refl, sym, ap, subst, ◌∙◌, ℕ, ◌+◌, arith}
use Rattle.automaton.specs.declared.Refusal.{Refusal}
use Rattle.tokens.specs.declared.Sort.{Sort}
use Rattle.tokens.specs.declared.Sort.TheVariants as sort
use Rattle.tokens.specs.declared.Token.{Token}
use Rattle.tokens.specs.Here.{Here}
use Rattle.labels.specs.Label.{Label, always, never, prop, not, Level, unit, chain, whole, Is, is_true, is_false, is_prop, is_not, is_group, is_unit, is_and, is_chain, is_or, deepest, Labelled}
use Rattle.labels.specs.Stands.{Stage, want, have, Fails, stuck, goes}
use Rattle.labels.specs.Parts.{Past}
use Rattle.labels.proofs.Walk.{have-end, after, drops, leads}

-- ---- the first token of a unit tells what unit it is

-- behind `!` stands a unit
record Denied (T : ℕ → Token) (p d i : ℕ) (l : Label) (j : ℕ) : Type 0 where
  inner : Label
  is_inner : l ≡ not inner
  is : Is T p unit d (T i).next inner j

-- behind `(` stands a label, and `)`
record Grouped (T : ℕ → Token) (p d i : ℕ) (l : Label) (j : ℕ) : Type 0 where
  depth : ℕ
  is_depth : depth + 1 ≡ d
  end : ℕ
  is : Is T p whole depth (T i).next l end
  closed : Here T end sort.GroupEnd j

-- what a unit is whose first token has this sort
abbrev Shape : (T : ℕ → Token) → (p d i : ℕ) → Sort → Label → (j : ℕ) → Type 0
Shape T p d i sort.True l j = (l ≡ always) × ((T i).next ≡ j)
Shape T p d i sort.False l j = (l ≡ never) × ((T i).next ≡ j)
Shape T p d i (sort.Number v) l j = (l ≡ prop v) × ((T i).next ≡ j)
Shape T p d i sort.Not l j = Denied T p d i l j
Shape T p d i sort.Group l j = Grouped T p d i l j
Shape T p d i _ l j = ⊥

module _ {T : ℕ → Token} {p : ℕ} where
  shape : {d i j : ℕ} {l : Label} → Is T p unit d i l j → Shape T p d i (T i).sort l j
  shape {d} {i} {j} (is_true h) = subst (λ (k : Sort). Shape T p d i k always j) (sym h.0) (refl, h.1)
  shape {d} {i} {j} (is_false h) = subst (λ (k : Sort). Shape T p d i k never j) (sym h.0) (refl, h.1)
  shape {d} {i} {j} (is_prop {v = v} h b) = subst (λ (k : Sort). Shape T p d i k (prop v) j) (sym h.0) (refl, h.1)
  shape {d} {i} {j} (is_not {l = l} h u) =
      subst (λ (k : Sort). Shape T p d i k (not l) j) (sym h.0)
      (record { inner = l; is_inner = refl; is = subst (λ (k : ℕ). Is T p unit d k l j) (sym h.1) u })
  shape {d} {i} {j} (is_group {e = e} {h = g} {l = l} q h w c) =
      subst (λ (k : Sort). Shape T p d i k l j) (sym h.0)
      (record { depth = e; is_depth = q; end = g; is = subst (λ (k : ℕ). Is T p whole e k l g) (sym h.1) w; closed = c })

-- what must not follow a label of a level
abbrev pub Over : Level → Sort → Type 0
Over unit k = Unit {0}
Over chain k = k ≢ sort.And
Over whole k = Past k

-- `)` and `]` end a label
past-group : {k : Sort} → k ≡ sort.GroupEnd → Past k
past-group e = (λ q. absurd (cc), λ q. absurd (cc))

past-label : {k : Sort} → k ≡ sort.LabelEnd → Past k
past-label e = (λ q. absurd (cc), λ q. absurd (cc))

-- `|` is no `&`
no-and : {k : Sort} → k ≡ sort.Or → k ≢ sort.And
no-and e q = absurd (cc)

module _ {T : ℕ → Token} {p : ℕ} where
  -- two labels of a level from the same place are one, if both are read as far as they go
  pub same : {v : Level} {d i j h : ℕ} {l m : Label} → Is T p v d i l j → Is T p v d i m h → Over v (T j).sort → Over v (T h).sort → (l ≡ m) × (j ≡ h)
  same {d = d} {i = i} {h = h} {m = m} (is_true x) y o q =
      let s = subst (λ (k : Sort). Shape T p d i k m h) x.0 (shape y) in
      (sym s.0, sym x.1 ∙ s.1)
  same {d = d} {i = i} {h = h} {m = m} (is_false x) y o q =
      let s = subst (λ (k : Sort). Shape T p d i k m h) x.0 (shape y) in
      (sym s.0, sym x.1 ∙ s.1)
  same {d = d} {i = i} {h = h} {m = m} (is_prop x b) y o q =
      let s = subst (λ (k : Sort). Shape T p d i k m h) x.0 (shape y) in
      (sym s.0, sym x.1 ∙ s.1)
  same {d = d} {i = i} {h = h} {m = m} (is_not x u) y o q =
      let s = subst (λ (k : Sort). Shape T p d i k m h) x.0 (shape y) in
      let r = same u (subst (λ (k : ℕ). Is T p unit d k s.inner h) x.1 s.is) tt tt in
      (ap not r.0 ∙ sym s.is_inner, r.1)
  same {d = d} {i = i} {h = h} {m = m} (is_group {e = e} {g = g} z x w c) y o q =
      let s = subst (λ (k : Sort). Shape T p d i k m h) x.0 (shape y) in
      let f : s.depth ≡ e = omega (arith, s.is_depth) in
      let v = subst (λ (k : ℕ). Is T p whole k g m s.end) f (subst (λ (k : ℕ). Is T p whole s.depth k m s.end) x.1 s.is) in
      let r = same w v (past-group c.0) (past-group s.closed.0) in
      (r.0, sym c.1 ∙ (ap (λ (k : ℕ). (T k).next) r.1 ∙ s.closed.1))
  same (is_unit u) (is_unit v) o q = same u v tt tt
  same (is_unit u) (is_and v e c) o q = let r = same u v tt tt in absurd (o (ap (λ (k : ℕ). (T k).sort) r.1 ∙ e.0))
  same (is_and u e c) (is_unit v) o q = let r = same u v tt tt in absurd (q (ap (λ (k : ℕ). (T k).sort) (sym r.1) ∙ e.0))
  same {d = d} {h = end} (is_and {h = a} u e c) (is_and {h = b} {m = m} v f w) o q =
      let r = same u v tt tt in
      let z : b ≡ a = sym f.1 ∙ (ap (λ (k : ℕ). (T k).next) (sym r.1) ∙ e.1) in
      let s = same c (subst (λ (k : ℕ). Is T p chain d k m end) z w) o q in
      (cc (r.0, s.0), s.1)
  same (is_chain u) (is_chain v) o q = same u v o.0 q.0
  same (is_chain u) (is_or v e c) o q = let r = same u v o.0 (no-and e.0) in absurd (o.1 (ap (λ (k : ℕ). (T k).sort) r.1 ∙ e.0))
  same (is_or u e c) (is_chain v) o q = let r = same u v (no-and e.0) q.0 in absurd (q.1 (ap (λ (k : ℕ). (T k).sort) (sym r.1) ∙ e.0))
  same {d = d} {h = end} (is_or {h = a} u e c) (is_or {h = b} {m = m} v f w) o q =
      let r = same u v (no-and e.0) (no-and f.0) in
      let z : b ≡ a = sym f.1 ∙ (ap (λ (k : ℕ). (T k).next) (sym r.1) ∙ e.1) in
      let s = same c (subst (λ (k : ℕ). Is T p whole d k m end) z w) o q in
      (cc (r.0, s.0), s.1)

  -- ---- the label of an edge

  -- one label that `]` ends stands from a place on, and has one end
  pub labelled-one : {i j h : ℕ} {l m : Label} → Labelled T p i l j → Labelled T p i m h → (l ≡ m) × (j ≡ h)
  labelled-one x y =
      let r = same x.is y.is (past-label x.ended.0) (past-label y.ended.0) in
      (r.0, sym x.ended.1 ∙ (ap (λ (k : ℕ). (T k).next) r.1 ∙ y.ended.1))

  ends : {d j : ℕ} {r : Refusal} → (T j).sort ≡ sort.LabelEnd → Fails T p (have d 0) j r → ⊥
  ends {d} {j} e (stuck q k) = let s = have-end p d 0 (T j) e in let z : ◌≡◌ {A = ℕ} 0 1 = cc in omega arith
  ends {d} {j} e (goes q k f) = let s = have-end p d 0 (T j) e in let z : ◌≡◌ {A = ℕ} 0 1 = cc in omega arith

  -- where one stands, none is refused
  pub labelled-stands : {i j : ℕ} {l : Label} {r : Refusal} → Labelled T p i l j → Fails T p (want deepest 0) i r → ⊥
  labelled-stands w f = ends w.ended.0 (drops (leads w.is 0) f)

  -- one refusal is given from a place and stage on
  pub fails-one : {s : Stage} {i : ℕ} {r q : Refusal} → Fails T p s i r → Fails T p s i q → r ≡ q
  fails-one {i = i} (stuck {f = f} e k) (stuck {f = g} e' k') =
      let z : f ≡ g = cc in
      sym k ∙ (ap (λ (x : ℕ → Refusal). x (T i).at) z ∙ k')
  fails-one (stuck e k) (goes e' k' y) = let z : ◌≡◌ {A = ℕ} 0 1 = cc in absurd (omega arith)
  fails-one (goes e k x) y = fails-one x (after e k y)
