-- The steps and the kind of each position, by its parts: a step for each move, and no other.
use Rattle.std.proofs.Common.{◌≡◌, sym, ap, ◌∙◌, ◌≢◌, Bool, map, ℕ, ◌<◌, arith}
use mathlib.Core.List.{Memᴰ}
use mathlib.Core.List.Memᴰ
use Rattle.games.specs.Game.{Kind, low, ask, asked, lowest}
use Rattle.automaton.specs.declared.Mode.{Mode}
use Rattle.automaton.specs.Board.{Board, accepts, Formed}
use Rattle.simulation.specs.Moves.{Arrow, arrows, targets, Moves}
use Rattle.simulation.specs.Position.{Position, spoiler, duplicator, layers, pair, number}
use Rattle.simulation.specs.Rules.{challenge, reply, steps, turn, kind_of, ceiling, game}
use Rattle.simulation.proofs.Moves.{targets-moves, arrows-moves}
use Rattle.simulation.proofs.Position.{position-number}
use Rattle.simulation.proofs.Turns.{is_low, turn_low}
use Rattle.halves.specs.Half.{challenged, replied}

-- Spoiler's positions are not of Duplicator's kind
pub turn-not-low : (m : Mode) (b : ℕ) (x y : Bool) → turn m b x y ≢ low
turn-not-low m b x y e = omega (arith, turn_low m b x y, ap is_low e)

module _ (B : Board) (m : Mode) (F : Formed B) where
  -- ---- from Spoiler's (b,q,r)

  module _ (b q r : ℕ) (hb : b < layers m) (hq : q < B.n) (hr : r < B.n) where
    spoiler-next : (game B m).next (pair B b q r) ≡ map (number B m) (map (challenge B m b r) (arrows B q))
    spoiler-next = ap (λ (p : Position). map (number B m) (steps B m p)) (position-number B m (spoiler b q r) (hb, hq, hr))

    pub spoiler-kind : (game B m).kind (pair B b q r) ≡ turn m b (accepts B q) (accepts B r)
    spoiler-kind = ap (kind_of B m) (position-number B m (spoiler b q r) (hb, hq, hr))

    pub spoiler-step : (a x : ℕ) → Moves B q a x → Memᴰ (challenged B m b r x a) ((game B m).next (pair B b q r))
    spoiler-step a x v =
        let e : Arrow = record { by = a; goal = x } in
        rw spoiler-next (Memᴰ.map (number B m) (Memᴰ.map (challenge B m b r) ((arrows-moves B q e).1 v)))

    pub spoiler_stepped : (w : ℕ) → Memᴰ w ((game B m).next (pair B b q r)) → (a : ℕ) × ((x : ℕ) × (Moves B q a x × (w ≡ challenged B m b r x a)))
    spoiler_stepped w i =
        let (p, j, y) = Memᴰ.of_map (number B m) (map (challenge B m b r) (arrows B q)) (rw spoiler-next at i) in
        let (e, k, z) = Memᴰ.of_map (challenge B m b r) (arrows B q) j in
        (e.by, (e.goal, ((arrows-moves B q e).0 k, sym y ∙ ap (number B m) (sym z))))

  -- ---- from Duplicator's (b,q,r,a)

  module _ (b q r a : ℕ) (hb : b < layers m) (hq : q < B.n) (hr : r < B.n) (ha : a < B.k) where
    duplicator-next : (game B m).next (number B m (duplicator b q r a)) ≡ map (number B m) (map (reply B m b q) (targets B r a))
    duplicator-next = ap (λ (p : Position). map (number B m) (steps B m p)) (position-number B m (duplicator b q r a) (hb, hq, hr, ha))

    pub duplicator-kind : (game B m).kind (number B m (duplicator b q r a)) ≡ low
    duplicator-kind = ap (kind_of B m) (position-number B m (duplicator b q r a) (hb, hq, hr, ha))

    -- it asks for Low
    pub duplicator_asks : (f : ℕ → ℕ)
        → asked (game B m) f (number B m (duplicator b q r a)) ≡ lowest (ceiling B m) f ((game B m).next (number B m (duplicator b q r a)))
    unfolding ask
    duplicator_asks f = ap (λ (k : Kind). ask k (ceiling B m) f ((game B m).next (number B m (duplicator b q r a)))) duplicator-kind

    pub duplicator-step : (x : ℕ) → Moves B r a x → Memᴰ (replied B m b q x) ((game B m).next (number B m (duplicator b q r a)))
    duplicator-step x v = rw duplicator-next (Memᴰ.map (number B m) (Memᴰ.map (reply B m b q) ((targets-moves B r a x).1 v)))

    pub duplicator_stepped : (w : ℕ) → Memᴰ w ((game B m).next (number B m (duplicator b q r a))) → (x : ℕ) × (Moves B r a x × (w ≡ replied B m b q x))
    duplicator_stepped w i =
        let (p, j, y) = Memᴰ.of_map (number B m) (map (reply B m b q) (targets B r a)) (rw duplicator-next at i) in
        let (x, k, z) = Memᴰ.of_map (reply B m b q) (targets B r a) j in
        (x, ((targets-moves B r a x).0 k, sym y ∙ ap (number B m) (sym z)))
