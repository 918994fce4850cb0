-- Edges lead along a triple exactly if one of them has its states and a label that holds of its letter.
use Rattle.std.proofs.Common.{◌≡◌, refl, ap, subst, ◌∙◌, ◌↔◌, Bool, true, false, ◌&&◌, ◌||◌, List, [], ◌∷◌, ℕ, eqb-true, eq-eqb, eqb}
use Rattle.std.proofs.Math.Bool.{false≢true, and-eq-true_iff, or-true}
use mathlib.Core.List.{Memᴰ}
use Rattle.labels.specs.Label.{holds}
use Rattle.bodies.specs.Body.{Edge, leads_by, leads}

-- from the state q to the state r, under a label that holds of the letter a
module _ (q a r : ℕ) where
  -- an edge
  abbrev pub LeadsBy : Edge → Type 0
  LeadsBy e = (e.from ≡ q) × (e.to ≡ r) × (holds e.label a ≡ true)

  leads_by-is : (e : Edge) → (leads_by e q a r ≡ true) ↔ LeadsBy e
  leads_by-is e = (
    λ h.
        let b = (and-eq-true_iff (eqb e.from q) (eqb e.to r && holds e.label a)).0 h in
        let c = (and-eq-true_iff (eqb e.to r) (holds e.label a)).0 b.1 in
        (eqb-true e.from q b.0, eqb-true e.to r c.0, c.1),
    λ h. simp (eq-eqb e.from q h.0, eq-eqb e.to r h.1, h.2),
  )

  -- one of several
  abbrev pub LeadsOne : List Edge → Type 0
  LeadsOne es = (e : Edge) × Memᴰ e es × LeadsBy e

  edge_of : (es : List Edge) → leads es q a r ≡ true → LeadsOne es
  unfolding leads
  edge_of [] h = absurd (false≢true h)
  edge_of (e ∷ es) h = go (leads_by e q a r) refl h (edge_of es)
    where
      go : (b : Bool) → leads_by e q a r ≡ b → (b || leads es q a r) ≡ true → (leads es q a r ≡ true → LeadsOne es) → LeadsOne (e ∷ es)
      go true d x more = (e, Memᴰ.head refl, (leads_by-is e).0 d)
      go false d x more = let (f, m, l) = more x in (f, Memᴰ.tail m, l)

  leads-by : {e : Edge} {es : List Edge} → Memᴰ e es → leads_by e q a r ≡ true → leads es q a r ≡ true
  unfolding leads
  leads-by (Memᴰ.head d) h = simp (subst (λ (x : Edge). leads_by x q a r ≡ true) d h)
  leads-by (Memᴰ.tail {x = f} m) h = ap (λ (b : Bool). leads_by f q a r || b) (leads-by m h) ∙ or-true (leads_by f q a r)

  pub leads-edge : (es : List Edge) → (leads es q a r ≡ true) ↔ LeadsOne es
  leads-edge es = (edge_of es, λ h. leads-by h.1 ((leads_by-is h.0).1 h.2))
