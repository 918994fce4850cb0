-- How far reading a text reaches, and how large the numbers of a header are.
use Rattle.std.proofs.Common.{subst, List, ℕ, ◌≤◌, length, Option, Ok, Err, arith}
use Rattle.std.specs.Option.{unwrap_or}
use Rattle.automaton.specs.declared.Refusal.{Refusal}
use Rattle.automaton.specs.Answer.{place_of}
use Rattle.tokens.specs.declared.Token.{Token}
use Rattle.tokens.specs.Here.{Number}
use Rattle.tokens.specs.Tokens.{token_from}
use Rattle.tokens.proofs.Reach.{from-within, value-most}
use Rattle.headers.specs.declared.Header.{Header}
use Rattle.headers.specs.declared.Said.{Said}
use Rattle.headers.specs.declared.Wanted.{Wanted}
use Rattle.headers.specs.declared.Wanted.TheVariants.{Format}
use Rattle.headers.specs.Header.{unsaid, most_props, Item, states, start, props, acceptance, skipped, Items, no_item, item}
use Rattle.headers.specs.Walk.{Outcome, held, Walk, goes, over, stuck}
use Rattle.headers.proofs.Exact.{read-header}
use Rattle.headers.proofs.On.{leads-on}

-- the place that an answer names
abbrev place_in : Outcome → ℕ
place_in (Ok x) = x.next
place_in (Err r) = place_of r

module _ (s : List ℕ) where
  walk_within : {w : Wanted} {t : Said} {i : ℕ} {r : Outcome} → i ≤ length s → Walk (token_from s) w t i r → place_in r ≤ length s
  walk_within {w = w} {t = t} {i = i} l (goes e n k) = walk_within (rw n at (leads-on s i w t _ l e).1) k
  walk_within {w = w} {t = t} {i = i} l (over e n) = rw n at (leads-on s i w t _ l e).1
  walk_within {i = i} l (stuck e n) = rw n at (from-within s i l).1

  pub held-within : {h : Header} {j : ℕ} → Walk (token_from s) Format unsaid 0 (held h j) → j ≤ length s
  held-within = walk_within (omega arith)

  pub refused-within : {r : Refusal} → Walk (token_from s) Format unsaid 0 (Err r) → place_of r ≤ length s
  refused-within = walk_within (omega arith)

module _ (T : ℕ → Token) where
  -- what each header keeps, all of them keep
  module _ (P : Said → Type 0) (each : (h k : Said) (i j : ℕ) → Item T h i k j → P h → P k) where
    keep : {h m : Said} {i j : ℕ} → Items T h i m j → P h → P m
    keep no_item p = p
    keep {h = h} {i = i} (item {t = k} {g = g} x l) p = keep l (each h k i g x p)

  few : {h k : Said} {i j : ℕ} → Item T h i k j → unwrap_or h.props 0 ≤ most_props → unwrap_or k.props 0 ≤ most_props
  few (states c x n) p = p
  few (start c x n) p = p
  few (props c x n l names) p = l
  few (acceptance c x a) p = p
  few (skipped x v) p = p

  pub few-props : {h : Header} {j : ℕ} → Walk T Format unsaid 0 (held h j) → h.props ≤ most_props
  few-props k =
      let H = read-header T k in
      rw H.whole.props at (keep (λ s. unwrap_or s.props 0 ≤ most_props) (λ h k i j x. few x) H.items (omega arith))

module _ (s : List ℕ) where
  -- a number that was said is a number of the text
  abbrev Low : Option ℕ → Type 0
  Low x = unwrap_or x 0 ≤ 65535

  abbrev Small : Said → Type 0
  Small h = Low h.states × Low h.start

  number : (i : ℕ) {v j : ℕ} → Number (token_from s) i v j → v ≤ 65535
  number i n = value-most s i n.0

  small : {h k : Said} {i j : ℕ} → Item (token_from s) h i k j → Small h → Small k
  small (states {g = g} c x n) p = (number g n, p.1)
  small (start {g = g} c x n) p = (p.0, number g n)
  small (props c x n l names) p = p
  small (acceptance c x a) p = p
  small (skipped x v) p = p

  numbers-most : {h : Header} {j : ℕ} → Walk (token_from s) Format unsaid 0 (held h j) → (h.states ≤ 65535) × (h.start ≤ 65535)
  numbers-most k =
      let H = read-header (token_from s) k in
      let p = keep (token_from s) Small (λ h k i j x. small x) H.items (omega arith) in
      (subst Low H.whole.states p.0, subst Low H.whole.start p.1)

  pub states-most : {h : Header} {j : ℕ} → Walk (token_from s) Format unsaid 0 (held h j) → h.states ≤ 65535
  states-most k = (numbers-most k).0

  pub start-most : {h : Header} {j : ℕ} → Walk (token_from s) Format unsaid 0 (held h j) → h.start ≤ 65535
  start-most k = (numbers-most k).1
