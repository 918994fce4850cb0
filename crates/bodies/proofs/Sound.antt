-- What was read is sound: the sheet lists states below n alone, and the edges lead between such states.
use Rattle.std.proofs.Common.{◌≡◌, refl, ◌∙◌, Bool, true, false, ◌&&◌, ◌||◌, List, [], ◌∷◌, ℕ, zero, suc, ◌<◌, arith, eqb-true, eqb, get_or, replicate, set, length-set, get_or-set_other}
use Rattle.std.proofs.Math.Bool.{false≢true}
use Rattle.std.proofs.Math.ListN.{length-replicate}
use Rattle.tokens.specs.Tokens.{token_from}
use Rattle.labels.specs.Label.{holds}
use Rattle.bodies.specs.declared.Entry.{Entry}
use Rattle.bodies.specs.declared.Due.{Due}
use Rattle.bodies.specs.declared.Due.TheVariants.{Block}
use Rattle.bodies.specs.declared.Next.TheVariants as next
use Rattle.bodies.specs.Body.{Edge, blank, leads, listed, accepting, unlisted}
use Rattle.bodies.specs.Sound.{Inside, Sound}
use Rattle.bodies.specs.Walk.{Outcome, held, refused, Led, led, Walk, goes, lists, marks, edge, astray, over, stuck}
use Rattle.bodies.proofs.On.{Known, Knows, leads-known}

-- an entry of a blank sheet
get_or-blank : (c q : ℕ) → get_or (replicate c unlisted) q unlisted ≡ unlisted
get_or-blank zero q = refl
get_or-blank (suc c) zero = refl
get_or-blank (suc c) (suc q) = get_or-blank c q

blank_sound : (n : ℕ) → Sound n blank []
unfolding Inside
blank_sound n = record { long = length-replicate {A = Entry} 65536 unlisted; beyond = λ q l. get_or-blank 65536 q; inside = tt }

module _ {n : ℕ} {s : List Entry} {es : List Edge} where
  entry_sound : (q : ℕ) (v : Entry) → Known n q → Sound n s es → Sound n (set s q v) es
  entry_sound q v known a = record {
    long = length-set s q v ∙ a.long;
    beyond = λ k b. get_or-set_other s q k v unlisted (λ e. omega (arith, known.0)) ∙ a.beyond k b;
    inside = a.inside;
  }

  edge_sound : {T : ℕ → _} {p q i j : ℕ} {e : Edge} → Known n q → Led T n p q i e j → Sound n s es → Sound n s (e ∷ es)
  unfolding Inside
  edge_sound known (led l x r) a = record { long = a.long; beyond = a.beyond; inside = (known.0, r, a.inside) }

-- what an outcome holds is sound
abbrev Fine : (n : ℕ) → Outcome → Type 0
Fine n (held t es) = Sound n t es
Fine n (refused r) = Unit

module _ (text : List ℕ) {n p : ℕ} where
  walk_sound : {d : Due} {s : List Entry} {es : List Edge} {i : ℕ} {o : Outcome} → Walk (token_from text) n p d s es i o → Knows n d → Sound n s es → Fine n o
  walk_sound {d} {s} {es} {i} (goes {c = c} e b w) k a = walk_sound w (leads-known text i n d _ (next.To c) k e) a
  walk_sound {d} {s} {es} {i} (lists {q = q} e b w) k a = let q-known = leads-known text i n d _ (next.List q) k e in walk_sound w q-known (entry_sound q listed q-known a)
  walk_sound {d} {s} {es} {i} (marks {q = q} e b w) k a = let q-known = leads-known text i n d _ (next.Mark q) k e in walk_sound w q-known (entry_sound q accepting q-known a)
  walk_sound {d} {s} {es} {i} (edge {q = q} e b x w) k a = let q-known = leads-known text i n d _ (next.Edge q) k e in walk_sound w q-known (edge_sound q-known x a)
  walk_sound (astray e b x) k a = tt
  walk_sound (over e) k a = a
  walk_sound (stuck e b) k a = tt

  pub held_sound : {i : ℕ} {sheet : List Entry} {es : List Edge} → Walk (token_from text) n p Block blank [] i (held sheet es) → Sound n sheet es
  held_sound w = walk_sound w tt (blank_sound n)

-- so a move leads from one of n states to one of them
pub leads-inside : (n : ℕ) (es : List Edge) (q a r : ℕ) → Inside n es → leads es q a r ≡ true → (q < n) × (r < n)
unfolding Inside leads
leads-inside n [] q a r i e = absurd (false≢true e)
leads-inside n (x ∷ es) q a r i e = go (eqb x.from q) (eqb x.to r) (holds x.label a) refl refl e (leads-inside n es q a r i.2)
  where
    go : (f t h : Bool) → eqb x.from q ≡ f → eqb x.to r ≡ t → ((f && (t && h)) || leads es q a r) ≡ true → (leads es q a r ≡ true → (q < n) × (r < n)) → (q < n) × (r < n)
    go true true true f t e more = (omega (arith, eqb-true x.from q f, i.0), omega (arith, eqb-true x.to r t, i.1))
    go true true false f t e more = more e
    go true false h f t e more = more e
    go false t h f g e more = more e
