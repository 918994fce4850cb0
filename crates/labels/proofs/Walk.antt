-- The walk of a refusal goes along the labels of the grammar, both ways.
use Rattle.std.proofs.Common.{◌≡◌, ◌≢◌, refl, sym, ap, subst, ◌∙◌, true, ℕ, suc, ◌+◌, ◌<◌, ◌≤◌, add-one, arith, lt-ltb, le-ltb}
use Rattle.automaton.specs.declared.Refusal.{Refusal}
use Rattle.automaton.specs.declared.Refusal.TheVariants.{Foreign}
use Rattle.tokens.specs.declared.Sort.{Sort}
use Rattle.tokens.specs.declared.Sort.TheVariants as sort
use Rattle.tokens.specs.declared.Token.{Token}
use Rattle.tokens.specs.Sorts as sorts
use Rattle.labels.specs.Label.{Label, Level, Is, is_true, is_false, is_prop, is_not, is_group, is_unit, is_and, is_chain, is_or}
use Rattle.labels.specs.Stands.{Stage, want, have, to, refuse, opening, closing, ending, wanted, behind, step, Fails, stuck, goes}

-- ---- what each token leads to

module _ (p d o : ℕ) (x : Token) where
  pub want-true : x.sort ≡ sort.True → step p (want d o) x ≡ to (have d o)
  want-true e = simp e

  pub want-false : x.sort ≡ sort.False → step p (want d o) x ≡ to (have d o)
  want-false e = simp e

  pub want-number : {v : ℕ} → x.sort ≡ sort.Number v → v < p → step p (want d o) x ≡ to (have d o)
  want-number e l = simp (e, lt-ltb _ _ l)

  pub want-not : x.sort ≡ sort.Not → step p (want d o) x ≡ to (want d o)
  want-not e = simp e

  pub want-group : x.sort ≡ sort.Group → step p (want d o) x ≡ opening d o
  want-group e = simp e

  pub want_open : {e : ℕ} → e + 1 ≡ d → x.sort ≡ sort.Group → step p (want d o) x ≡ to (want e (suc o))
  want_open {e} q g = want-group g ∙ ap (λ (n : ℕ). opening n o) (sym q ∙ add-one e)

  pub have-and : x.sort ≡ sort.And → step p (have d o) x ≡ to (want d o)
  have-and e = simp e

  pub have-or : x.sort ≡ sort.Or → step p (have d o) x ≡ to (want d o)
  have-or e = simp e

  pub have_close : x.sort ≡ sort.GroupEnd → step p (have d o) x ≡ closing d o
  have_close e = simp e

  pub have-end : x.sort ≡ sort.LabelEnd → step p (have d o) x ≡ ending o
  have-end e = simp e

-- every other token
module _ (p d o : ℕ) where
  pub want_foreign : (k : Sort) → k ≢ sort.True → k ≢ sort.False → ((v : ℕ) → k ≡ sort.Number v → p ≤ v) → k ≢ sort.Not → k ≢ sort.Group → wanted p d o k ≡ refuse Foreign
  want_foreign sort.True a b c e f = absurd (a refl)
  want_foreign sort.False a b c e f = absurd (b refl)
  want_foreign (sort.Number v) a b c e f = simp (le-ltb _ _ (c v refl))
  want_foreign sort.Not a b c e f = absurd (e refl)
  want_foreign sort.Group a b c e f = absurd (f refl)
  want_foreign _ a b c e f = refl

  pub have_foreign : (k : Sort) → k ≢ sort.And → k ≢ sort.Or → k ≢ sort.GroupEnd → k ≢ sort.LabelEnd → behind d o k ≡ refuse Foreign
  have_foreign sort.And a b c e = absurd (a refl)
  have_foreign sort.Or a b c e = absurd (b refl)
  have_foreign sort.GroupEnd a b c e = absurd (c refl)
  have_foreign sort.LabelEnd a b c e = absurd (e refl)
  have_foreign _ a b c e = refl

-- a token that leads on stands in the text
module _ {u : Stage} where
  refused : {A : Type 0} → refuse Foreign ≡ to u → A
  refused e = absurd (cc)

  wanted_stands : (p d o : ℕ) (k : Sort) → wanted p d o k ≡ to u → sorts.stands k ≡ true
  wanted_stands p d o sort.Nothing e = refused e
  wanted_stands p d o sort.Wrong e = refused e
  wanted_stands p d o _ e = refl

  behind_stands : (d o : ℕ) (k : Sort) → behind d o k ≡ to u → sorts.stands k ≡ true
  behind_stands d o sort.Nothing e = refused e
  behind_stands d o sort.Wrong e = refused e
  behind_stands d o _ e = refl

  pub step_stands : (p : ℕ) (s : Stage) (x : Token) → step p s x ≡ to u → sorts.stands x.sort ≡ true
  step_stands p (want d o) x e = wanted_stands p d o x.sort e
  step_stands p (have d o) x e = behind_stands d o x.sort e

-- ---- the walk from a place and stage to another

pub data Leads (T : ℕ → Token) (p : ℕ) : Stage → ℕ → Stage → ℕ → Type 0 where
  stays : {s : Stage} {i : ℕ} → Leads T p s i s i
  moves : {s u v : Stage} {i j k : ℕ} → step p s (T i) ≡ to u → (T i).next ≡ j → Leads T p u j v k → Leads T p s i v k

module _ {T : ℕ → Token} {p : ℕ} where
  pub joined : {s u v : Stage} {i j k : ℕ} → Leads T p s i u j → Leads T p u j v k → Leads T p s i v k
  joined stays w = w
  joined (moves e q w) x = moves e q (joined w x)

  -- what fails at its end fails at its start
  pub pushes : {s u : Stage} {i j : ℕ} {r : Refusal} → Leads T p s i u j → Fails T p u j r → Fails T p s i r
  pushes stays f = f
  pushes (moves e q w) f = goes e q (pushes w f)

  -- where a token may stand, what fails at it fails behind it
  pub after : {s u : Stage} {i j : ℕ} {r : Refusal} → step p s (T i) ≡ to u → (T i).next ≡ j → Fails T p s i r → Fails T p u j r
  after e q (stuck e' k) = let z : ◌≡◌ {A = ℕ} 0 1 = cc in absurd (omega arith)
  after {u = u} {r = r} e q (goes {u = v} {j = h} e' k f) =
      let a : v ≡ u = cc in
      let b : h ≡ _ = sym k ∙ q in
      subst (λ (x : ℕ). Fails T p u x r) b (subst (λ (x : Stage). Fails T p x h r) a f)

  -- what fails at its start fails at its end
  pub drops : {s u : Stage} {i j : ℕ} {r : Refusal} → Leads T p s i u j → Fails T p s i r → Fails T p u j r
  drops stays f = f
  drops (moves e q w) f = drops w (after e q f)

  -- ---- a label is walked through

  pub leads : {v : Level} {d i j : ℕ} {l : Label} → Is T p v d i l j → (o : ℕ) → Leads T p (want d o) i (have d o) j
  leads {d = d} {i = i} (is_true h) o = moves (want-true p d o (T i) h.0) h.1 stays
  leads {d = d} {i = i} (is_false h) o = moves (want-false p d o (T i) h.0) h.1 stays
  leads {d = d} {i = i} (is_prop h l) o = moves (want-number p d o (T i) h.0 l) h.1 stays
  leads {d = d} {i = i} (is_not h u) o = moves (want-not p d o (T i) h.0) h.1 (leads u o)
  leads {d = d} {i = i} {j = j} (is_group {e = e} {h = g} q h w c) o =
      let last : Leads T p (have e (suc o)) g (have d o) j = moves (have_close p e (suc o) (T g) c.0 ∙ ap (λ (n : ℕ). to (have n o)) (sym (add-one e) ∙ q)) c.1 stays in
      moves (want_open p d o (T i) q h.0) h.1 (joined (leads w (suc o)) last)
  leads (is_unit u) o = leads u o
  leads {d = d} (is_and {g = g} u h c) o = joined (leads u o) (moves (have-and p d o (T g) h.0) h.1 (leads c o))
  leads (is_chain c) o = leads c o
  leads {d = d} (is_or {g = g} c h w) o = joined (leads c o) (moves (have-or p d o (T g) h.0) h.1 (leads w o))
