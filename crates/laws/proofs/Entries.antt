-- The entries of a table at rest are a ranked family, and the least table's holds the beginning of every won pair.
use mathlib.Core.Path.{◌≡◌, refl}
use mathlib.Core.Logic.{◌≢◌}
use mathlib.Core.List.Memᴰ
use mathlib.Core.List.{List, [], Memᴰ}
use Prim.Native.Nat.{ℕ, ◌<◌}
use native.Mathlib.Omega.{arith}
use Rattle.games.specs.Game.{lost, at}
use Rattle.games.specs.Lift.{AtRest, Least}
use Rattle.games.proofs.Replies.{stays_below, falls}
use Rattle.automaton.specs.declared.Mode.{Mode}
use Rattle.automaton.specs.Board.{Board, accepts, Formed}
use Rattle.simulation.specs.Moves.{targets, Arrow}
use Rattle.simulation.specs.Position.{spoiler, duplicator, number}
use Rattle.simulation.specs.Rules.{pended, challenge, reply, kind_of, ceiling, game, beginning}
use Rattle.simulation.specs.Won.{Walks, here, onward, WonPair}
use Rattle.simulation.specs.Answers.{replies}
use Rattle.simulation.proofs.Moves.{targets-moves, arrows-moves}
use Rattle.simulation.proofs.Position.{number_lt}
use Rattle.simulation.proofs.Inward.{inward}
use Rattle.simulation.proofs.Walks.{Good, beginning-good, walk_good, obeys-kept}
use Rattle.simulation.proofs.Same.{by_number, by_number_agrees, to_walk}
use Rattle.simulation.proofs.Relation.{least_won}
use Rattle.simulation.proofs.Reply.{replies-chosen, replies-least, replies_won}
use Rattle.laws.specs.Families.{Answer, Ranked, Begins}

-- the entry at Spoiler's position is k, below T, and the position is in range and not idle
pub record Entries (B : Board) (m : Mode) (t : List ℕ) (b q r k : ℕ) : Type 0 where
  pub good : Good B m (spoiler b q r)
  pub is : at t (number B m (spoiler b q r)) ≡ k
  pub below : k < ceiling B m

module _ (B : Board) (F : Formed B) (m : Mode) (t : List ℕ) (rest : AtRest (game B m) t) where
  -- Blue's answer is the reply of the table; the walk of that one round tells the rank.
  pub entries-answer : {b q r k : ℕ} → Entries B m t b q r k → (a q' : ℕ) → Memᴰ q' (targets B q a) → Answer B m (Entries B m t) b q r k a q'
  entries-answer {b} {q} {r} {k} e a q' i =
      let σ = replies B m t in
      let p = spoiler b q r in
      let b' = pended m (accepts B q') b in
      let r' = σ b' q' r a in
      let below : at t (number B m p) < ceiling B m = omega (arith, e.is, e.below) in
      let arrow : Arrow = record { by = a; goal = q' } in
      let step = Memᴰ.map (challenge B m b r) ((arrows-moves B q arrow).1 ((targets-moves B q a q').0 i)) in
      let red : Walks B m σ p (duplicator b' q' r a) = onward (here refl) (record { step = step; follows = tt }) in
      let alive : targets B r a ≢ [] = (replies_won B F m t rest p e.good below).alive (duplicator b' q' r a) red in
      let move = replies-chosen B F m t b' q' r a (walk_good B F m e.good red).0 alive in
      let round : Walks B m σ p (reply B m b' q' r') = onward red (record { step = Memᴰ.map (reply B m b' q') move; follows = refl }) in
      let (d, counted, reset) = to_walk B F m (by_number B m σ) σ (by_number_agrees B F m σ (replies-chosen B F m t)) e.good round in
      let start = number_lt B m p e.good.0 in
      record {
        to = r';
        rank = at t (number B m (reply B m b' q' r'));
        move = move;
        held = record {
          good = walk_good B F m e.good round;
          is = refl;
          below = (stays_below (game B m) (inward B F m) t rest (by_number B m σ) (replies-least B F m t) start below d).1;
        };
        fall = λ z. omega (arith, e.is, falls (game B m) (inward B F m) t rest (by_number B m σ) (replies-least B F m t) start below d (omega arith));
      }

  pub entries-reply : {b q r k : ℕ} (e : Entries B m t b q r k) (a q' : ℕ) (i : Memᴰ q' (targets B q a))
      → (entries-answer e a q' i).to ≡ replies B m t (pended m (accepts B q') b) q' r a
  unfolding entries-answer
  entries-reply e a q' i = refl

  -- the replies win from here, so no lost position is held
  entries-kept : {b q r k : ℕ} → Entries B m t b q r k → kind_of B m (spoiler b q r) ≢ lost
  entries-kept {b} {q} {r} e =
      let p = spoiler b q r in
      obeys-kept B m (replies B m t) p (replies_won B F m t rest p e.good (omega (arith, e.is, e.below))).obeys p (here refl)

  pub entries_ranked : Ranked B m (ceiling B m) (Entries B m t)
  entries_ranked = record {
    bounded = λ e. e.below;
    good = λ e. e.good;
    kept = entries-kept;
    answer = entries-answer;
  }

-- on the least table the beginning of a won pair is below T
pub won_begins : (B : Board) → Formed B → (m : Mode) (t : List ℕ) → Least (game B m) t → (q r : ℕ) → q < B.n → r < B.n
    → WonPair B m q r → Begins B m (Entries B m t) q r
won_begins B F m t least q r h l w =
    (at t (number B m (beginning B m q r)), record { good = beginning-good B F m q r h l; is = refl; below = (least_won B F m t q r h l least).1 w })
