-- Whoever holds a ranked family wins every pair whose beginning is in it.
use mathlib.Core.Path.{◌≡◌, refl, sym, subst}
use mathlib.Core.Logic.{◌≢◌}
use mathlib.Core.List.Memᴰ
use mathlib.Core.List.{List, map, Memᴰ}
use Prim.Native.Nat.{ℕ, zero, suc, ◌<◌}
use native.Mathlib.Nat.{le_refl}
use native.Mathlib.Omega.{arith}
use Rattle.games.specs.Game.{Kind, low, high, counting, resetting, idle, lost}
use Rattle.games.specs.Measure as Measure
use Rattle.games.specs.Measure.{Upheld}
use Rattle.games.proofs.Measure.{ranked_won}
use Rattle.automaton.specs.declared.Mode.{Mode}
use Rattle.automaton.specs.Board.{Board, accepts, Formed}
use Rattle.simulation.specs.Moves.{arrows, targets}
use Rattle.simulation.specs.Position.{Position, spoiler, duplicator, number, position, Fits}
use Rattle.simulation.specs.Rules.{eased, challenge, reply, steps, kind_of, game, beginning}
use Rattle.simulation.specs.Won.{WonPair}
use Rattle.simulation.proofs.Moves.{targets-moves, arrows-moves}
use Rattle.simulation.proofs.Position.{number_lt, position-number, position_fits}
use Rattle.simulation.proofs.Inward.{steps-fit, inward}
use Rattle.simulation.proofs.Turns.{is_low, turn_low}
use Rattle.simulation.proofs.Walks.{beginning-good}
use Rattle.simulation.proofs.Same.{won_same}
use Rattle.laws.specs.Families.{Family, Fall, Ranked, Begins}

-- a position is held with rank k: Spoiler's by the family, Duplicator's if a move of Blue's leads to one of those
abbrev Holds : Board → Mode → Family → Position → (k : ℕ) → Type 0
Holds B m R (spoiler b q r) k = R b q r k
Holds B m R (duplicator b q r a) k = (r' : ℕ) × Memᴰ r' (targets B r a) × R (eased m (accepts B r') b) q r' k

-- the same by numbers, each rank one higher, so that a counting position has a positive one
abbrev Numbered : Board → Mode → Family → (v k : ℕ) → Type 0
Numbered B m R v zero = ⊥
Numbered B m R v (suc k) = Holds B m R (position B m v) k

-- a position of Spoiler's that is not lost is upheld where each step leads to a rank to which its own goes on
upheld_falls : (X : ℕ → ℕ → Type 0) (c : Kind) (ws : List ℕ) (k : ℕ) → is_low c ≡ 0 → c ≢ lost
    → ((w : ℕ) → Memᴰ w ws → (p : ℕ) × Fall c k p × X w (suc p)) → Upheld c X ws (suc k)
upheld_falls X low ws k l n f = absurd (omega arith)
upheld_falls X high ws k l n f = λ w i. let (p, d, x) = f w i in (suc p, omega (arith, d refl), x)
upheld_falls X counting ws k l n f = (omega arith, λ w i. let (p, d, x) = f w i in (suc p, omega (arith, d refl), x))
upheld_falls X resetting ws k l n f = λ w i. let (p, d, x) = f w i in (suc p, x)
upheld_falls X idle ws k l n f = tt
upheld_falls X lost ws k l n f = absurd (n refl)

module _ (B : Board) (F : Formed B) (m : Mode) (N : ℕ) (R : Family) (ranked : Ranked B m N R) where
  -- a position that is held is so under its number
  holds_numbered : (p : Position) → Fits B m p → (k : ℕ) → Holds B m R p k → Numbered B m R (number B m p) (suc k)
  holds_numbered p h k x = subst (λ (z : Position). Holds B m R z k) (sym (position-number B m p h)) x

  -- and it is upheld
  holds-upheld : (p : Position) → Fits B m p → (k : ℕ) → Holds B m R p k
      → Upheld (kind_of B m p) (Numbered B m R) (map (number B m) (steps B m p)) (suc k)
  holds-upheld (spoiler b q r) h k x =
      upheld_falls (Numbered B m R) (kind_of B m (spoiler b q r)) (map (number B m) (steps B m (spoiler b q r))) k
      (turn_low m b (accepts B q) (accepts B r)) (ranked.kept x) moves
    where
      moves : (w : ℕ) → Memᴰ w (map (number B m) (steps B m (spoiler b q r)))
          → (p : ℕ) × Fall (kind_of B m (spoiler b q r)) k p × Numbered B m R w (suc p)
      moves w i =
          let (u, j, e) = Memᴰ.of_map (number B m) (steps B m (spoiler b q r)) i in
          let (o, l, d) = Memᴰ.of_map (challenge B m b r) (arrows B q) j in
          let y = ranked.answer x o.by o.goal ((targets-moves B q o.by o.goal).1 ((arrows-moves B q o).0 l)) in
          let held = subst (λ (z : Position). Holds B m R z y.rank) d (y.to, y.move, y.held) in
          (y.rank, y.fall, subst (λ (v : ℕ). Numbered B m R v (suc y.rank)) e (holds_numbered u (steps-fit B F m (spoiler b q r) h j) y.rank held))
  holds-upheld (duplicator b q r a) h k (r', i, x) =
      let j = Memᴰ.map (reply B m b q) i in (
        number B m (reply B m b q r'),
        Memᴰ.map (number B m) j,
        (suc k, le_refl (suc k), holds_numbered (reply B m b q r') (steps-fit B F m (duplicator b q r a) h j) k x),
      )

  holds-bounded : (p : Position) (k : ℕ) → Holds B m R p k → k < N
  holds-bounded (spoiler b q r) k x = ranked.bounded x
  holds-bounded (duplicator b q r a) k (r', i, x) = ranked.bounded x

  -- so the numbers are a ranked set of the game
  numbered_ranked : Measure.Ranked (game B m) (suc N) (Numbered B m R)
  numbered_ranked = record { bounded = bounded; upheld = upheld }
    where
      bounded : (v k : ℕ) → Numbered B m R v k → k < suc N
      bounded v zero x = absurd x
      bounded v (suc k) x = omega (arith, holds-bounded (position B m v) k x)

      upheld : (v k : ℕ) → v < (game B m).P → Numbered B m R v k → Upheld ((game B m).kind v) (Numbered B m R) ((game B m).next v) k
      upheld v zero h x = absurd x
      upheld v (suc k) h x = holds-upheld (position B m v) (position_fits B m F v h) k x

  pub held_won : (q r : ℕ) → q < B.n → r < B.n → Begins B m R q r → WonPair B m q r
  held_won q r h l (k, x) =
      let p = beginning B m q r in
      let fits = (beginning-good B F m q r h l).0 in
      (won_same B F m q r h l).1
      (ranked_won (game B m) (inward B F m) (suc N) (Numbered B m R) numbered_ranked (number B m p) (suc k) (number_lt B m p fits) (holds_numbered p fits k x))
