-- What is read to the end is a body as the format writes it: what stands from a place on, by what is due there.
use Rattle.std.proofs.Common.{◌≡◌, refl, sym, subst, Bool, true, false, cond, ◌&&◌, List, ◌∷◌, ℕ, ◌<◌, eqb, ltb, get_or, set, Option, Some, None, arith, eqb-true, ltb-true, set-set}
use Rattle.std.proofs.Math.Bool.{false≢true}
use Rattle.tokens.specs.declared.Sort.{Sort}
use Rattle.tokens.specs.declared.Sort.TheVariants as sort
use Rattle.tokens.specs.declared.Token.{Token}
use Rattle.tokens.specs.Here.{Here, Number}
use Rattle.bodies.specs.declared.Entry.{Entry}
use Rattle.bodies.specs.declared.Entry.TheVariants.{Unlisted}
use Rattle.bodies.specs.declared.Due.{Due}
use Rattle.bodies.specs.declared.Due.TheVariants as due
use Rattle.bodies.specs.declared.Next.{Next}
use Rattle.bodies.specs.declared.Next.TheVariants as next
use Rattle.bodies.specs.Body.{Edge, listed, accepting, unlisted, is_unlisted, Name, no_name, name, Marks, no_marks, empty, marked, IsEdge, edge as is_edge, Edges, no_edge, edges, Blocks, no_block, block}
use Rattle.bodies.specs.Stands.{block_next, edges_next, signed_next, named_next, closed_next, braces_next, state_next, over_next, step}
use Rattle.bodies.specs.Walk.{Outcome, held, Led, led, Walk, goes, lists, marks, edge, astray, over, stuck}

-- T gives tokens, n states, p propositions; in the end there are the sheet t and the edges gs
module _ (T : ℕ → Token) (n p : ℕ) (t : List Entry) (gs : List Edge) where
  -- ---- what stands from i on, with this sheet and these edges before it

  -- blocks, and the end
  pub record Rest (s : List Entry) (es : List Edge) (i : ℕ) : Type 0 where
    pub after_blocks : ℕ
    pub after-end : ℕ
    pub blocks : Blocks T n p s es i t gs after_blocks
    pub end : Here T after_blocks sort.End after-end
    pub nothing : (T after-end).sort ≡ sort.Nothing

  -- edges of q, and the rest
  record Edging (q : ℕ) (s : List Entry) (es : List Edge) (i : ℕ) : Type 0 where
    after-edges : ℕ
    all : List Edge
    run : Edges T n p q es i all after-edges
    rest : Rest s all after-edges

  -- a `}` before them
  abbrev Closing : (q : ℕ) → (s : List Entry) → (es : List Edge) → (i : ℕ) → Type 0
  Closing q s es i = ((T i).sort ≡ sort.MarksEnd) × Edging q s es (T i).next

  -- the rest of `{}` or `{0}` before them
  data Braced (q : ℕ) (s : List Entry) (es : List Edge) (i : ℕ) : Type 0 where
    closed : Closing q s es i → Braced q s es i
    zero : Number T i 0 (T i).next → Closing q (set s q accepting) es (T i).next → Braced q s es i

  -- marks of q, or none
  data Signing (q : ℕ) (s : List Entry) (es : List Edge) (i : ℕ) : Type 0 where
    unsigned : Edging q s es i → Signing q s es i
    signed : (T i).sort ≡ sort.Marks → Braced q s es (T i).next → Signing q s es i

  -- a name of q, or none
  data Naming (q : ℕ) (s : List Entry) (es : List Edge) (i : ℕ) : Type 0 where
    unnamed : Signing q s es i → Naming q s es i
    named : (T i).sort ≡ sort.Quoted → Signing q s es (T i).next → Naming q s es i

  -- the number of a state that is not listed yet
  record Listing (s : List Entry) (es : List Edge) (i : ℕ) : Type 0 where
    state : ℕ
    number : (T i).sort ≡ sort.Number state
    low : state < n
    new : get_or s state unlisted ≡ unlisted
    naming : Naming state (set s state listed) es (T i).next

  -- nothing more
  record Ending (s : List Entry) (es : List Edge) (i : ℕ) : Type 0 where
    nothing : (T i).sort ≡ sort.Nothing
    sheet : s ≡ t
    edges : es ≡ gs

  -- by what is due
  abbrev Stands : Due → (s : List Entry) → (es : List Edge) → (i : ℕ) → Type 0
  Stands due.Block s es i = Rest s es i
  Stands due.State s es i = Listing s es i
  Stands (due.Named q) s es i = Naming q s es i
  Stands (due.Signed q) s es i = Signing q s es i
  Stands (due.Braces q) s es i = Braced q s es i
  Stands (due.Zero q) s es i = Closing q s es i
  Stands (due.Edges q) s es i = Edging q s es i
  Stands due.Nothing s es i = Ending s es i

  -- an edge behind its `[`, and what stands behind it
  record Edged (q : ℕ) (s : List Entry) (es : List Edge) (i : ℕ) : Type 0 where
    one : Edge
    place : ℕ
    is-led : Led T n p q i one place
    more : Edging q s (one ∷ es) place

  -- what stands at i behind a token that led there
  abbrev After : Option Next → (s : List Entry) → (es : List Edge) → (i : ℕ) → Type 0
  After (Some (next.To d)) s es i = Stands d s es i
  After (Some (next.List q)) s es i = Naming q (set s q listed) es i
  After (Some (next.Mark q)) s es i = Closing q (set s q accepting) es i
  After (Some (next.Edge q)) s es i = Edged q s es i
  After (Some next.Done) s es i = (s ≡ t) × (es ≡ gs)
  After None s es i = ⊥

  -- ---- each token adds its part

  module _ (s : List Entry) (es : List Edge) (i : ℕ) where
    abbrev Behind : Option Next → Type 0
    Behind m = After m s es (T i).next

    -- a test of the table was met
    met : (b : Bool) (m : Next) → Behind (cond b (Some m) None) → (b ≡ true) × Behind (Some m)
    met true m a = (refl, a)
    met false m a = absurd a

    both : (a b : Bool) → (a && b) ≡ true → (a ≡ true) × (b ≡ true)
    both true b e = (refl, e)
    both false b e = absurd (false≢true e)

    -- behind `State:`, a number that is not listed yet makes a block with what follows it
    module _ (x : (T i).sort ≡ sort.State) (l : Listing s es (T i).next) where
      abbrev q : ℕ
      q = l.state

      abbrev g : ℕ
      g = (T (T i).next).next

      blocked : {f e : ℕ} {m : Entry} → Name T g f → Marks T f m e → Edging q (set s q m) es e → Rest s es i
      blocked nm ms a =
          let r = a.rest in
          record { after_blocks = r.after_blocks; after-end = r.after-end; blocks = block (x, refl) (l.number, refl) l.low l.new nm ms a.run r.blocks; end = r.end; nothing = r.nothing }

      signing-blocks : {f : ℕ} → Name T g f → Signing q (set s q listed) es f → Rest s es i
      signing-blocks nm (unsigned a) = blocked nm no_marks a
      signing-blocks nm (signed e (closed c)) = blocked nm (empty (e, refl) (c.0, refl)) c.1
      signing-blocks {f = f} nm (signed e (zero z c)) =
          blocked nm (marked (e, refl) z (c.0, refl)) (subst (λ (u : List Entry). Edging q u es (T (T (T f).next).next).next) (set-set s q listed accepting) c.1)

      naming-blocks : Naming q (set s q listed) es g → Rest s es i
      naming-blocks (unnamed a) = signing-blocks no_name a
      naming-blocks (named e a) = signing-blocks (name (e, refl)) a

    -- `--END--` ends the blocks
    ends : (T i).sort ≡ sort.End → Ending s es (T i).next → Rest s es i
    ends e a =
        let blocks = subst (λ (u : List Entry). Blocks T n p s es i u gs i) a.sheet (subst (λ (fs : List Edge). Blocks T n p s es i s fs i) a.edges no_block) in
        record { after_blocks = i; after-end = (T i).next; blocks = blocks; end = (e, refl); nothing = a.nothing }

    block_found : (k : Sort) → (T i).sort ≡ k → Behind (block_next k) → Rest s es i
    block_found sort.State e a = naming-blocks e a a.naming
    block_found sort.End e a = ends e a
    block_found _ e a = absurd a

    -- an edge with its `[`
    begun : {q j : ℕ} {e : Edge} → (T i).sort ≡ sort.Label → Led T n p q (T i).next e j → IsEdge T n p q i e j
    begun x (led l v r) = is_edge (x, refl) l v r

    edges_found : (q : ℕ) (k : Sort) → (T i).sort ≡ k → Behind (edges_next q k) → Edging q s es i
    edges_found q sort.Label e a = let x = a.more in record { after-edges = x.after-edges; all = x.all; run = edges (begun e a.is-led) x.run; rest = x.rest }
    edges_found q k e a = record { after-edges = i; all = es; run = no_edge; rest = block_found k e a }

    signed_found : (q : ℕ) (k : Sort) → (T i).sort ≡ k → Behind (signed_next q k) → Signing q s es i
    signed_found q sort.Marks e a = signed e a
    signed_found q k e a = unsigned (edges_found q k e a)

    named_found : (q : ℕ) (k : Sort) → (T i).sort ≡ k → Behind (named_next q k) → Naming q s es i
    named_found q sort.Quoted e a = named e a
    named_found q k e a = unnamed (signed_found q k e a)

    closed_found : (q : ℕ) (k : Sort) → (T i).sort ≡ k → Behind (closed_next q k) → Closing q s es i
    closed_found q sort.MarksEnd e a = (e, a)
    closed_found q _ e a = absurd a

    braces_found : (q : ℕ) (k : Sort) → (T i).sort ≡ k → Behind (braces_next q k) → Braced q s es i
    braces_found q (sort.Number v) e a =
        let m = met (eqb v 0) (next.Mark q) a in
        zero (subst (λ (v : ℕ). (T i).sort ≡ sort.Number v) (eqb-true v 0 m.0) e, refl) m.1
    braces_found q k e a = closed (closed_found q k e a)

    unlisted-told : (x : Entry) → is_unlisted x ≡ true → x ≡ unlisted
    unlisted-told Unlisted e = refl
    unlisted-told _ e = absurd (false≢true e)

    state_found : (k : Sort) → (T i).sort ≡ k → Behind (state_next n s k) → Listing s es i
    state_found (sort.Number q) e a =
        let m = met (ltb q n && is_unlisted (get_or s q unlisted)) (next.List q) a in
        let l = both _ _ m.0 in
        record { state = q; number = e; low = ltb-true _ _ l.0; new = unlisted-told _ l.1; naming = m.1 }
    state_found _ e a = absurd a

    over_found : (k : Sort) → (T i).sort ≡ k → Behind (over_next k) → Ending s es i
    over_found sort.Nothing e a = record { nothing = e; sheet = a.0; edges = a.1 }
    over_found _ e a = absurd a

    -- what stands behind a token makes what stands from it on
    stands_found : (d : Due) (k : Sort) → (T i).sort ≡ k → Behind (step n d s k) → Stands d s es i
    stands_found due.Block k e a = block_found k e a
    stands_found due.State k e a = state_found k e a
    stands_found (due.Named q) k e a = named_found q k e a
    stands_found (due.Signed q) k e a = signed_found q k e a
    stands_found (due.Braces q) k e a = braces_found q k e a
    stands_found (due.Zero q) k e a = closed_found q k e a
    stands_found (due.Edges q) k e a = edges_found q k e a
    stands_found due.Nothing k e a = over_found k e a

    -- the same by what the table says
    turned : (d : Due) {j : ℕ} (m : Next) → step n d s (T i).sort ≡ Some m → (T i).next ≡ j → After (Some m) s es j → Stands d s es i
    turned d m e b a = stands_found d (T i).sort refl (subst Behind (sym e) (subst (After (Some m) s es) (sym b) a))

  -- along a walk that ends well
  found : {d : Due} {s : List Entry} {es : List Edge} {i : ℕ} {o : Outcome} → Walk T n p d s es i o → o ≡ held t gs → Stands d s es i
  found {d = d} {s = s} {es = es} {i = i} (goes {c = c} e b w) h = turned s es i d (next.To c) e b (found w h)
  found {d = d} {s = s} {es = es} {i = i} (lists {q = q} e b w) h = turned s es i d (next.List q) e b (found w h)
  found {d = d} {s = s} {es = es} {i = i} (marks {q = q} e b w) h = turned s es i d (next.Mark q) e b (found w h)
  found {d = d} {s = s} {es = es} {i = i} (edge {q = q} e b l w) h = turned s es i d (next.Edge q) e b (record { one = _; place = _; is-led = l; more = found w h })
  found {d = d} {s = s} {es = es} {i = i} (over e) h = turned s es i d next.Done e refl (cc, cc)
  found (astray e b x) h = let z : ◌≡◌ {A = ℕ} 0 1 = cc in absurd (omega arith)
  found (stuck e b) h = let z : ◌≡◌ {A = ℕ} 0 1 = cc in absurd (omega arith)

  -- where a block may begin
  pub rest_found : {s : List Entry} {es : List Edge} {i : ℕ} → Walk T n p due.Block s es i (held t gs) → Rest s es i
  rest_found w = found w refl
