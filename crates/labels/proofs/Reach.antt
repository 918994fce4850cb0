-- How far a label reaches: tokens and labels go on and stay in the text, and so does the place of a refusal.
use Rattle.std.proofs.Common.{◌≡◌, refl, sym, ap, subst, ◌∙◌, Bool, true, false, cond, List, ℕ, zero, suc, ◌≤◌, ◌<◌, ltb, length, arith}
use Rattle.automaton.specs.Answer.{place_of}
use Rattle.automaton.specs.declared.Refusal.{Refusal}
use Rattle.tokens.specs.declared.Sort.{Sort}
use Rattle.tokens.specs.declared.Sort.TheVariants as sort
use Rattle.tokens.specs.declared.Token.{Token}
use Rattle.tokens.specs.Here.{Here}
use Rattle.tokens.specs.Sorts.{stands}
use Rattle.tokens.specs.Tokens.{token_from}
use Rattle.tokens.proofs.Reach.{from-within, token_on}
use Rattle.labels.specs.Label.{Label, Level, Is, is_true, is_false, is_prop, is_not, is_group, is_unit, is_and, is_chain, is_or, Labelled}
use Rattle.labels.specs.Stands.{Stage, want, have, Next, to, done, refuse, opening, closing, ending, wanted, behind, step, Fails, stuck, goes}
use Rattle.labels.proofs.Walk.{step_stands}

-- ---- the place of a refusal is that of the token

abbrev Placing : Next → Type 0
Placing (to s) = Unit {0}
Placing done = Unit {0}
Placing (refuse f) = (n : ℕ) → place_of (f n) ≡ n

each : (b : Bool) (x y : Next) → Placing x → Placing y → Placing (cond b x y)
each true x y p q = p
each false x y p q = q

opens : (d o : ℕ) → Placing (opening d o)
opens zero o = λ n. refl
opens (suc d) o = tt

closes : (d o : ℕ) → Placing (closing d o)
closes d zero = λ n. refl
closes d (suc o) = tt

ends : (o : ℕ) → Placing (ending o)
ends zero = tt
ends (suc o) = λ n. refl

wants : (p d o : ℕ) (k : Sort) → Placing (wanted p d o k)
wants p d o sort.True = tt
wants p d o sort.False = tt
wants p d o (sort.Number v) = each (ltb v p) _ _ tt (λ n. refl)
wants p d o sort.Not = tt
wants p d o sort.Group = opens d o
wants p d o _ = λ n. refl

follows : (d o : ℕ) (k : Sort) → Placing (behind d o k)
follows d o sort.And = tt
follows d o sort.Or = tt
follows d o sort.GroupEnd = closes d o
follows d o sort.LabelEnd = ends o
follows d o _ = λ n. refl

placing : (p : ℕ) (s : Stage) (x : Token) → Placing (step p s x)
placing p (want d o) x = wants p d o x.sort
placing p (have d o) x = follows d o x.sort

module _ (s : List ℕ) where
  pub next-on : {i : ℕ} {x : Token} → x ≡ token_from s i → i ≤ length s → stands x.sort ≡ true → (i < x.next) × (x.next ≤ length s)
  next-on {i} {x} e le on =
      subst (λ (y : Token). (i < y.next) × (y.next ≤ length s)) (sym e)
      (token_on s i le (ap (λ (y : Token). stands y.sort) (sym e) ∙ on))

  pub here_on : {i j : ℕ} {k : Sort} → Here (token_from s) i k j → stands k ≡ true → i ≤ length s → (i < j) × (j ≤ length s)
  here_on {i} h on le =
      let g = token_on s i le (ap stands h.0 ∙ on) in
      (omega (arith, h.1), omega (arith, h.1))

  -- a label of the grammar goes on and stays in the text
  pub is-on : {p : ℕ} {v : Level} {d i j : ℕ} {l : Label} → Is (token_from s) p v d i l j → i ≤ length s → (i < j) × (j ≤ length s)
  is-on (is_true h) le = here_on h refl le
  is-on (is_false h) le = here_on h refl le
  is-on (is_prop h l) le = here_on h refl le
  is-on (is_not h u) le =
      let a = here_on h refl le in
      let b = is-on u a.1 in
      (omega arith, b.1)
  is-on (is_group q h w c) le =
      let a = here_on h refl le in
      let b = is-on w a.1 in
      let e = here_on c refl b.1 in
      (omega arith, e.1)
  is-on (is_unit u) le = is-on u le
  is-on (is_and u h c) le =
      let a = is-on u le in
      let b = here_on h refl a.1 in
      let e = is-on c b.1 in
      (omega arith, e.1)
  is-on (is_chain c) le = is-on c le
  is-on (is_or c h w) le =
      let a = is-on c le in
      let b = here_on h refl a.1 in
      let e = is-on w b.1 in
      (omega arith, e.1)

  -- a label goes on and stays in the text with its `]` too
  pub labelled-on : {p i j : ℕ} {l : Label} → Labelled (token_from s) p i l j → i ≤ length s → (i < j) × (j ≤ length s)
  labelled-on w le =
      let a = is-on w.is le in
      let b = here_on w.ended refl a.1 in
      (omega arith, b.1)

  -- the place of a refusal lies in the text
  pub fails-within : {p i : ℕ} {st : Stage} {r : Refusal} → Fails (token_from s) p st i r → i ≤ length s → place_of r ≤ length s
  fails-within {p} {i} {st} (stuck {f = f} e k) le =
      let told : place_of (f (token_from s i).at) ≡ (token_from s i).at = subst Placing e (placing p st (token_from s i)) (token_from s i).at in
      subst (λ (x : Refusal). place_of x ≤ length s) k (omega (arith, from-within s i le))
  fails-within {p} {i} {st} (goes e k f) le =
      let on = next-on {i = i} refl le (step_stands p st (token_from s i) e) in
      fails-within f (omega arith)
