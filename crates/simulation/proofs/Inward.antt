-- Every step from a position leads to a position.
use mathlib.Core.Path.{subst}
use mathlib.Core.Bool.{Bool, true, false}
use mathlib.Core.List.Memᴰ
use mathlib.Core.List.{Memᴰ}
use Prim.Native.Nat.{ℕ, ◌<◌}
use native.Mathlib.Omega.{arith}
use Rattle.games.specs.Game.{Inward}
use Rattle.automaton.specs.declared.Mode.{Mode}
use Rattle.automaton.specs.declared.Mode.TheVariants.{Ordinary, Direct, Delayed, Fair}
use Rattle.automaton.specs.Board.{Board, accepts, Formed}
use Rattle.simulation.specs.Moves.{arrows, targets}
use Rattle.simulation.specs.Position.{Position, spoiler, duplicator, layers, number, position, Fits}
use Rattle.simulation.specs.Rules.{pended, eased, challenge, reply, steps, game}
use Rattle.simulation.proofs.Moves.{targets_lt, arrows_lt}
use Rattle.simulation.proofs.Position.{number_lt, position_fits}

pub pended_lt : (m : Mode) (x : Bool) (b : ℕ) → b < layers m → pended m x b < layers m
pended_lt Ordinary x b h = h
pended_lt Direct x b h = h
pended_lt Delayed true b h = omega arith
pended_lt Delayed false b h = omega arith
pended_lt Fair x b h = h

pub eased_lt : (m : Mode) (x : Bool) (b : ℕ) → b < layers m → eased m x b < layers m
eased_lt Ordinary x b h = h
eased_lt Direct x b h = h
eased_lt Delayed true b h = omega arith
eased_lt Delayed false b h = omega arith
eased_lt Fair x b h = h

module _ (B : Board) (F : Formed B) (m : Mode) where
  pub steps-fit : (p : Position) → Fits B m p → {w : Position} → Memᴰ w (steps B m p) → Fits B m w
  steps-fit (spoiler b q r) h {w} i =
      let (e, x, y) = Memᴰ.of_map (challenge B m b r) (arrows B q) i in
      let l = arrows_lt B F q x in
      subst (Fits B m) y (pended_lt m (accepts B e.goal) b h.0, l.1, h.2, l.0)
  steps-fit (duplicator b q r a) h {w} i =
      let (s, x, y) = Memᴰ.of_map (reply B m b q) (targets B r a) i in
      subst (Fits B m) y (eased_lt m (accepts B s) b h.0, h.1, targets_lt B F r a x)

  pub inward : Inward (game B m)
  inward v h w i =
      let (p, x, y) = Memᴰ.of_map (number B m) (steps B m (position B m v)) i in
      rw (← y) (number_lt B m p (steps-fit (position B m v) (position_fits B m F v h) x))
