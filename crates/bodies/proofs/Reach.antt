-- The place of a refusal lies within the text.
use Rattle.std.proofs.Common.{List, ℕ, ◌≤◌, arith, length}
use Rattle.automaton.specs.Answer.{place_of}
use Rattle.automaton.specs.declared.Refusal.{Refusal}
use Rattle.tokens.specs.Tokens.{token_from}
use Rattle.tokens.proofs.Reach.{from-within}
use Rattle.labels.proofs.Reach.{labelled-on, fails-within}
use Rattle.bodies.specs.declared.Entry.{Entry}
use Rattle.bodies.specs.declared.Due.{Due}
use Rattle.bodies.specs.Body.{Edge}
use Rattle.bodies.specs.Walk.{Outcome, held, refused, Astray, in_label, no_number, no_state, Walk, goes, lists, marks, edge, astray, over, stuck}
use Rattle.bodies.proofs.On.{leads-on, led_on}

-- where an outcome lies, if it is a refusal
abbrev Within : (s : List ℕ) → Outcome → Type 0
Within s (held t es) = Unit
Within s (refused r) = place_of r ≤ length s

module _ (s : List ℕ) {n p : ℕ} where
  astray-within : {i : ℕ} {r : Refusal} → Astray (token_from s) n p i r → i ≤ length s → place_of r ≤ length s
  astray-within (in_label f) l = fails-within s f l
  astray-within (no_number {g = g} x d e) l = let w = from-within s g (labelled-on s x l).1 in omega arith
  astray-within (no_state {g = g} x d c e) l = let w = from-within s g (labelled-on s x l).1 in omega arith

  walk_within : {d : Due} {t : List Entry} {es : List Edge} {i : ℕ} {o : Outcome} → Walk (token_from s) n p d t es i o → i ≤ length s → Within s o
  walk_within {d = d} {i = i} (goes e b w) l = let on = leads-on s i n d _ _ l e tt in walk_within w (omega arith)
  walk_within {d = d} {i = i} (lists e b w) l = let on = leads-on s i n d _ _ l e tt in walk_within w (omega arith)
  walk_within {d = d} {i = i} (marks e b w) l = let on = leads-on s i n d _ _ l e tt in walk_within w (omega arith)
  walk_within {d = d} {i = i} (edge e b x w) l = let on = leads-on s i n d _ _ l e tt in walk_within w (led_on s x (omega arith)).1
  walk_within {d = d} {i = i} (astray e b x) l = let on = leads-on s i n d _ _ l e tt in astray-within x (omega arith)
  walk_within (over e) l = tt
  walk_within {i = i} (stuck e b) l = let w = from-within s i l in omega arith

  pub refused-within : {d : Due} {t : List Entry} {es : List Edge} {i : ℕ} {r : Refusal} → Walk (token_from s) n p d t es i (refused r) → i ≤ length s → place_of r ≤ length s
  refused-within w l = walk_within w l
