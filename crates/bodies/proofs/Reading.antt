-- A body as the format writes it is read token by token: what reading comes to behind a part of it, it comes to before it.
use Rattle.std.proofs.Common.{◌≡◌, refl, sym, ap, subst, ◌∙◌, List, ℕ, set, Some, lt-ltb, set-set}
use Rattle.tokens.specs.declared.Sort.{Sort}
use Rattle.tokens.specs.declared.Sort.TheVariants as sort
use Rattle.tokens.specs.declared.Token.{Token}
use Rattle.tokens.specs.Here.{Here}
use Rattle.bodies.specs.declared.Entry.{Entry}
use Rattle.bodies.specs.declared.Due.{Due}
use Rattle.bodies.specs.declared.Due.TheVariants as due
use Rattle.bodies.specs.declared.Next.TheVariants as next
use Rattle.bodies.specs.Body.{Edge, listed, accepting, Name, no_name, name, Marks, no_marks, empty, marked, edge as is_edge, Edges, no_edge, edges, Blocks, no_block, block}
use Rattle.bodies.specs.Stands.{onto, step}
use Rattle.bodies.specs.Walk.{Outcome, led, Walk, goes, lists, marks, edge}

module _ (n : ℕ) where
  -- where d is due, a block may begin or the body end
  abbrev pub Begins : Due → Type 0
  Begins d = (s : List Entry) → (step n d s sort.State ≡ onto due.State) × (step n d s sort.End ≡ onto due.Nothing)

  -- an edge of q may begin too
  abbrev Opens : (q : ℕ) → Due → Type 0
  Opens q d = Begins d × ((s : List Entry) → step n d s sort.Label ≡ Some (next.Edge q))

  -- the marks of q may stand too
  abbrev Signs : (q : ℕ) → Due → Type 0
  Signs q d = Opens q d × ((s : List Entry) → step n d s sort.Marks ≡ onto (due.Braces q))

  pub block-begins : Begins due.Block
  block-begins s = (refl, refl)

  edges-opens : (q : ℕ) → Opens q (due.Edges q)
  edges-opens q = (λ s. (refl, refl), λ s. refl)

  named_signs : (q : ℕ) → Signs q (due.Named q)
  named_signs q = ((λ s. (refl, refl), λ s. refl), λ s. refl)

  signed_signs : (q : ℕ) → Signs q (due.Signed q)
  signed_signs q = ((λ s. (refl, refl), λ s. refl), λ s. refl)

module _ (T : ℕ → Token) (n p : ℕ) {o : Outcome} where
  -- a token leads to where c is due
  pub to : {d : Due} {s : List Entry} {es : List Edge} {i j : ℕ} {k : Sort} (c : Due) → Here T i k j → step n d s k ≡ onto c → Walk T n p c s es j o → Walk T n p d s es i o
  to {d} {s} c h e w = goes (ap (step n d s) h.0 ∙ e) h.1 w

  edges-read : {q i j : ℕ} {s : List Entry} {es fs : List Edge} → Edges T n p q es i fs j → ((d : Due) → Opens n q d → Walk T n p d s fs j o) → (d : Due) → Opens n q d → Walk T n p d s es i o
  edges-read no_edge k d b = k d b
  edges-read {q = q} {i = i} {s = s} (edges (is_edge h l x r) es) k d b =
      edge {q = q} (ap (step n d s) h.0 ∙ b.1 s) h.1 (led l x r) (edges-read es k (due.Edges q) (edges-opens n q))

  module _ (q : ℕ) (s : List Entry) {es : List Edge} where
    marks-read : {i j : ℕ} {m : Entry} → Marks T i m j → ((d : Due) → Opens n q d → Walk T n p d (set s q m) es j o) → (d : Due) → Signs n q d → Walk T n p d (set s q listed) es i o
    marks-read no_marks k d b = k d b.0
    marks-read {i = i} (empty h g) k d b =
        to (due.Braces q) h (b.1 _)
        (to (due.Edges q) g refl (k (due.Edges q) (edges-opens n q)))
    marks-read {i = i} {j = j} (marked h z g) k d b =
        to (due.Braces q) h (b.1 _)
        (marks {q = q} (simp z.0) z.1
        (to (due.Edges q) g refl (subst (λ t. Walk T n p (due.Edges q) t es j o) (sym (set-set s q listed accepting)) (k (due.Edges q) (edges-opens n q)))))

    name-read : {i j : ℕ} → Name T i j → ((d : Due) → Signs n q d → Walk T n p d s es j o) → Walk T n p (due.Named q) s es i o
    name-read no_name k = k (due.Named q) (named_signs n q)
    name-read (name h) k = to (due.Signed q) h refl (k (due.Signed q) (signed_signs n q))

  pub blocks_read : {s t : List Entry} {es fs : List Edge} {i j : ℕ} → Blocks T n p s es i t fs j → ((d : Due) → Begins n d → Walk T n p d t fs j o) → (d : Due) → Begins n d → Walk T n p d s es i o
  blocks_read no_block k d b = k d b
  blocks_read {s = s} {i = i} (block {h = h} {q = q} x v low new nm ms xs more) k d b =
      to due.State x (b s).0
      (lists {q = q} (simp (v.0, lt-ltb q n low, new)) v.1
      (name-read q (set s q listed) nm (marks-read q s ms (edges-read xs (λ c o. blocks_read more k c o.0)))))
