-- The marked triples show one edge more.
use Rattle.std.proofs.Common.{◌≡◌, refl, sym, ap, ◌∙◌, Bool, true, false, cond, ◌||◌, List, [], ◌∷◌, ℕ, ◌*◌, ◌/◌, ◌%◌, ◌^◌, ◌≤◌, ◌<◌, mod-lt, arith, eq-eqb, ne_eqb, lt-ltb, eqb-true, eqb, get_or, replicate, pow_pos, pow_mono}
use borrow.Author.Tests.{eqb-false}
use Rattle.std.proofs.Math.ListN.{length-replicate}
use Rattle.games.proofs.Lift.{cleared_at}
use Rattle.automaton.specs.Limits.{most_states}
use Rattle.simulation.specs.Rules.{bit}
use Rattle.triples.specs.Triples.{most_triples, member, hit, Noted}
use Rattle.labels.specs.Label.{Label, holds}
use Rattle.labels.specs.Letters.{Agrees, flag}
use Rattle.bodies.specs.Body.{Edge, leads, leads_by}
use Rattle.bodies.specs.Reads.{Shown}

-- no edge shows in a clean sheet of triples
pub shown-none : (n k : ℕ) → Shown n k [] (replicate most_triples 0)
unfolding leads
shown-none n k = record { all = length-replicate {A = ℕ} most_triples 0; each = λ le x l. cleared_at most_triples x }

-- numbers are compared either way
eqb_swap : (a b : ℕ) (s : Bool) → eqb a b ≡ s → eqb b a ≡ s
eqb_swap a b true e = eq-eqb b a (sym (eqb-true a b e))
eqb_swap a b false e = ne_eqb b a (λ q. eqb-false a b e (sym q))

-- a flag is 1 where it stands for true
flag_one : (b : Bool) → eqb (flag b) 1 ≡ b
flag_one true = refl
flag_one false = refl

-- a mark that is set or left as it was
marked-or : (h b : Bool) → cond h 1 (bit b) ≡ bit (h || b)
marked-or true b = refl
marked-or false b = refl

module _ (n p q m r : ℕ) (l : Label) (few : p ≤ 4) (agrees : Agrees m l) where
  -- a triple is hit if the edge leads along it
  hit-leads : (x : ℕ) → hit n (2 ^ p) q m r (2 ^ p) x ≡ leads_by (record { from = q; label = l; to = r }) (x / n / 2 ^ p) (x / n % 2 ^ p) (x % n)
  hit-leads x =
      let a = x / n % 2 ^ p in
      let low : a < 2 ^ p = mod-lt (x / n) (pow_pos p) in
      let most : 2 ^ p ≤ 16 = pow_mono few in
      let within : member m a ≡ holds l a = ap (λ (y : ℕ). eqb y 1) (agrees a (omega arith)) ∙ flag_one (holds l a) in
      simp (lt-ltb a (2 ^ p) low, within, eqb_swap (x / n / 2 ^ p) q (eqb (x / n / 2 ^ p) q) refl, eqb_swap (x % n) r (eqb (x % n) r) refl)

  -- so a triple is marked afterwards if the edge leads along it, or if it was marked before
  pub shown-more : (es : List Edge) (seen after : List ℕ) → Noted n (2 ^ p) q m r (2 ^ p) seen after → Shown n (2 ^ p) es seen → Shown n (2 ^ p) (record { from = q; label = l; to = r } ∷ es) after
  unfolding leads
  shown-more es seen after noted shown = record { all = noted.0 ∙ shown.all; each = each }
    where
      each : n ≤ most_states → (x : ℕ) → x < n * 2 ^ p * n → get_or after x 0 ≡ bit (leads (record { from = q; label = l; to = r } ∷ es) (x / n / 2 ^ p) (x / n % 2 ^ p) (x % n))
      each le x b =
          let before = leads es (x / n / 2 ^ p) (x / n % 2 ^ p) (x % n) in
          let hits = hit n (2 ^ p) q m r (2 ^ p) x in
          noted.1 x b ∙ ap (cond hits 1) (shown.each le x b) ∙ marked-or hits before ∙ ap (λ (h : Bool). bit (h || before)) (hit-leads x)

-- where there are more states than an automaton has, nothing is said of an edge
pub shown-beyond : {n k : ℕ} {es : List Edge} {seen : List ℕ} (e : Edge) → most_states < n → Shown n k es seen → Shown n k (e ∷ es) seen
shown-beyond e more shown = record { all = shown.all; each = λ le x b. absurd (omega arith) }
