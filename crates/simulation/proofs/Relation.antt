-- The bytes of the relation: from any table at rest every 1 is a won pair, and from the settled one every won pair is a 1.
use mathlib.Core.Path.{◌≡◌, sym, ap, ◌∙◌}
use mathlib.Core.Logic.{◌↔◌}
use mathlib.Core.List.{List}
use Prim.Native.Nat.{ℕ, ◌+◌, ◌*◌, ◌≤◌, ◌<◌}
use native.Mathlib.Nat.{zero-add}
use lib.Arith.{digits_lt, digits_div, digits_mod}
use lib.ListN.{length, get_or}
use borrow.Author.Tests.{lt-ltb, ltb-true}
use Rattle.games.specs.Game.{at}
use Rattle.games.specs.Lift.{bound, AtRest, Least}
use Rattle.games.proofs.Settle.{settle-rest, settle-least, settle-raises}
use Rattle.games.proofs.Replies.{below_won}
use Rattle.games.proofs.Verdict.{verdict}
use Rattle.automaton.specs.declared.Mode.{Mode}
use Rattle.automaton.specs.Board.{Board, Formed}
use Rattle.simulation.specs.Position.{number}
use Rattle.simulation.specs.Rules.{bit, ceiling, game, beginning}
use Rattle.simulation.specs.Won.{WonPair}
use Rattle.simulation.specs.Answers.{settled, below, byte_at, relation}
use Rattle.simulation.proofs.Position.{number_lt}
use Rattle.simulation.proofs.Listed.{map_at, listed_length, bit-one}
use Rattle.simulation.proofs.Inward.{inward}
use Rattle.simulation.proofs.Counting.{counting_below}
use Rattle.simulation.proofs.Walks.{beginning-good}
use Rattle.simulation.proofs.Same.{won_same}

-- ---- the settled table

module _ (B : Board) (m : Mode) where
  pub settled-rest : AtRest (game B m) (settled B m).table
  settled-rest = settle-rest (game B m)

  pub settled-least : Least (game B m) (settled B m).table
  settled-least = settle-least (game B m)

  pub settled-raises : (settled B m).raised ≤ bound (game B m)
  settled-raises = settle-raises (game B m)

pub relation_length : (B : Board) (m : Mode) (t : List ℕ) → length (relation B m t) ≡ B.n * B.n
relation_length B m t = listed_length (byte_at B m t) 0 (B.n * B.n)

-- ---- pairs

module _ (B : Board) (F : Formed B) (m : Mode) (t : List ℕ) (q r : ℕ) (h : q < B.n) (l : r < B.n) where
  start : number B m (beginning B m q r) < (game B m).P
  start = number_lt B m (beginning B m q r) (beginning-good B F m q r h l).0

  pub rest_won : AtRest (game B m) t → at t (number B m (beginning B m q r)) < ceiling B m → WonPair B m q r
  rest_won s b = (won_same B F m q r h l).1 (below_won (game B m) (inward B F m) t s (number B m (beginning B m q r)) start b)

  pub least_won : Least (game B m) t → at t (number B m (beginning B m q r)) < ceiling B m ↔ WonPair B m q r
  least_won s =
      let v = verdict (game B m) (inward B F m) (counting_below B m) t s (number B m (beginning B m q r)) start in
      let w = won_same B F m q r h l in
      (λ b. w.1 (v.0 b), λ x. v.1 (w.0 x))

  pub relation-at : get_or (relation B m t) (q * B.n + r) 0 ≡ bit (below B m t q r)
  relation-at =
      map_at (byte_at B m t) 0 (B.n * B.n) (q * B.n + r) (digits_lt h l)
      ∙ ap (byte_at B m t) (zero-add (q * B.n + r))
      ∙ rw (digits_div q l, digits_mod q l)

  one_below : get_or (relation B m t) (q * B.n + r) 0 ≡ 1 ↔ at t (number B m (beginning B m q r)) < ceiling B m
  one_below = (λ e. ltb-true _ _ ((bit-one (below B m t q r)).0 (sym relation-at ∙ e)), λ b. relation-at ∙ ap bit (lt-ltb _ _ b))

  -- "From any table at rest every 1 is a won pair"
  pub relation-rest : AtRest (game B m) t → get_or (relation B m t) (q * B.n + r) 0 ≡ 1 → WonPair B m q r
  relation-rest s e = rest_won s (one_below.0 e)

  -- and from the least one, which is the settled one, every won pair is a 1
  pub relation-least : Least (game B m) t → get_or (relation B m t) (q * B.n + r) 0 ≡ 1 ↔ WonPair B m q r
  relation-least s = (λ e. (least_won s).0 (one_below.0 e), λ w. one_below.1 ((least_won s).1 w))

-- "from a settled one, every won pair is a 1"
pub relation-settled : (B : Board) → Formed B → (m : Mode) (q r : ℕ) → q < B.n → r < B.n
    → get_or (relation B m (settled B m).table) (q * B.n + r) 0 ≡ 1 ↔ WonPair B m q r
relation-settled B F m q r h l = relation-least B F m (settled B m).table q r h l (settled-least B m)
