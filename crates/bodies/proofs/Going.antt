-- The invariant of `read`: what reading comes to from the token that is next, it comes to from the first.
use Rattle.std.proofs.Common.{◌≡◌, sym, ap, subst, ◌∙◌, List, [], ◌∷◌, ℕ, ◌^◌, length, set, replicate, length-set, Some, None}
use Rattle.std.proofs.Math.ListN.{length-replicate}
use Rattle.automaton.specs.declared.Refusal.{Refusal}
use Rattle.automaton.specs.declared.Refusal.TheVariants.{Foreign}
use Rattle.tokens.specs.declared.Token.{Token}
use Rattle.tokens.specs.Tokens.{token_from}
use Rattle.triples.specs.Triples.{most_triples}
use Rattle.bodies.specs.declared.Entry.{Entry}
use Rattle.bodies.specs.declared.Due.{Due}
use Rattle.bodies.specs.declared.Due.TheVariants.{Block, Named, Zero, Edges}
use Rattle.bodies.specs.declared.Next.{Next}
use Rattle.bodies.specs.declared.Next.TheVariants as next
use Rattle.bodies.specs.Adds.{Added}
use Rattle.bodies.specs.Body.{Edge, blank, listed, accepting, unlisted}
use Rattle.bodies.specs.Reads.{Shown, Gathered}
use Rattle.bodies.specs.Stands.{step}
use Rattle.bodies.specs.Walk.{Outcome, held, refused, Astray, Walk, goes, lists, marks, edge, astray, over, stuck}
use Rattle.bodies.proofs.On.{Knows, KnowsNext, leads-known}
use Rattle.bodies.proofs.Shown.{shown-none}

-- `read` began at i, and is at a place where d is due, with this sheet and these marked triples
pub record Going (text : List ℕ) (n p i : ℕ) (d : Due) (sheet : List Entry) (seen : List ℕ) (at : ℕ) : Type 0 where
  pub edges : List Edge
  pub onward : (o : Outcome) → Walk (token_from text) n p d sheet edges at o → Walk (token_from text) n p Block blank [] i o
  pub shown : Shown n (2 ^ p) edges seen
  pub room : length sheet ≡ 65536
  pub knows : Knows n d

pub going_starts : (text : List ℕ) (n p i : ℕ) (sheet : List Entry) (seen : List ℕ) → sheet ≡ blank → seen ≡ replicate most_triples 0 → Going text n p i Block sheet seen i
going_starts text n p i sheet seen e f =
    record {
      edges = [];
      onward = λ o w. subst (λ (s : List Entry). Walk (token_from text) n p Block s [] i o) e w;
      shown = subst (Shown n (2 ^ p) []) (sym f) (shown-none n (2 ^ p));
      room = ap length e ∙ length-replicate {A = Entry} 65536 unlisted;
      knows = tt;
    }

module _ {text : List ℕ} {n p i : ℕ} {d : Due} {sheet : List Entry} {seen : List ℕ} {at : ℕ} (g : Going text n p i d sheet seen at) where
  abbrev T : ℕ → Token
  T = token_from text

  -- what the token at this place leads to
  abbrev To : Next → Type 0
  To m = step n d sheet (T at).sort ≡ Some m

  pub going_knows : (m : Next) → To m → KnowsNext n m
  going_knows m e = leads-known text at n d sheet m g.knows e

  module _ (j : ℕ) (behind : (T at).next ≡ j) where
    pub going_on : (c : Due) → To (next.To c) → Going text n p i c sheet seen j
    going_on c e = record { edges = g.edges; onward = λ o w. g.onward o (goes e behind w); shown = g.shown; room = g.room; knows = going_knows (next.To c) e }

    pub going_lists : (q : ℕ) → To (next.List q) → Going text n p i (Named q) (set sheet q listed) seen j
    going_lists q e = record { edges = g.edges; onward = λ o w. g.onward o (lists e behind w); shown = g.shown; room = length-set sheet q listed ∙ g.room; knows = going_knows (next.List q) e }

    pub going_marks : (q : ℕ) → To (next.Mark q) → Going text n p i (Zero q) (set sheet q accepting) seen j
    going_marks q e = record { edges = g.edges; onward = λ o w. g.onward o (marks e behind w); shown = g.shown; room = length-set sheet q accepting ∙ g.room; knows = going_knows (next.Mark q) e }

    pub going_edge : (q h : ℕ) (after : List ℕ) → To (next.Edge q) → Added T n p q j h seen after → Going text n p i (Edges q) sheet after h
    going_edge q h after e a = record { edges = a.edge ∷ g.edges; onward = λ o w. g.onward o (edge e behind a.led w); shown = a.shown g.edges g.shown; room = g.room; knows = going_knows (next.Edge q) e }

    pub going_astray : (q : ℕ) (r : Refusal) → To (next.Edge q) → Astray T n p j r → Walk T n p Block blank [] i (refused r)
    going_astray q r e a = g.onward (refused r) (astray e behind a)

  pub going_over : To next.Done → Gathered T n p i sheet seen
  going_over e = record { edges = g.edges; walked = g.onward (held sheet g.edges) (over e); shown = g.shown }

  pub going_stuck : (a : ℕ) → (T at).at ≡ a → step n d sheet (T at).sort ≡ None → Walk T n p Block blank [] i (refused (Foreign a))
  going_stuck a e f = g.onward (refused (Foreign a)) (stuck f e)
