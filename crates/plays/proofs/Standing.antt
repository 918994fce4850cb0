-- Where play stands after a history: at a position of Spoiler's that is in range and not idle; and where a round leads from there.
use mathlib.Core.Path.{◌≡◌}
use mathlib.Core.Bool.{true}
use Prim.Native.Nat.{ℕ, ◌<◌}
use native.Mathlib.Omega.{arith}
use Rattle.automaton.specs.declared.Mode.{Mode}
use Rattle.automaton.specs.Board.{Board, accepts, Formed}
use Rattle.simulation.specs.Moves.{Moves}
use Rattle.simulation.specs.Position.{Position, layers}
use Rattle.simulation.specs.Rules.{pended, eased, reply}
use Rattle.simulation.proofs.Moves.{move-within}
use Rattle.simulation.proofs.Inward.{pended_lt, eased_lt}
use Rattle.simulation.proofs.Turns.{eased-live, owed_lt}
use Rattle.simulation.proofs.Walks.{Good}
use Rattle.plays.specs.Plays.{History, first, round, red, KeepsTo, Strategy}

-- ---- positions

-- the bit b when Red has moved and Blue is to be placed
abbrev pub owing : Board → Mode → History → ℕ
owing B m (first q) = pended m (accepts B q) 0
owing B m (round h q' a q) = pended m (accepts B q) (eased m (accepts B q') (owing B m h))

-- Spoiler's position once Blue is placed on r
abbrev pub standing : Board → Mode → History → (r : ℕ) → Position
standing B m h r = reply B m (owing B m h) (red h) r

-- ---- in range

pub owing_lt : (B : Board) (m : Mode) (h : History) → owing B m h < layers m
owing_lt B m (first q) = pended_lt m (accepts B q) 0 (omega (arith, owed_lt m true true))
owing_lt B m (round h q' a q) = pended_lt m (accepts B q) _ (eased_lt m (accepts B q') (owing B m h) (owing_lt B m h))

module _ (B : Board) (F : Formed B) (f : History → ℕ) (q r : ℕ) (S : Strategy B f q r) (x : q < B.n) (y : r < B.n) where
  pub red_in : (h : History) → KeepsTo B f q h → red h < B.n
  red_in (first q₀) k = rw k x
  red_in (round h q' a q₁) k = (move-within B F (red h) a q₁ k.2).2

  blue_in : (h : History) → KeepsTo B f q h → f h < B.n
  blue_in (first q₀) k = rw (k, S.begins) y
  blue_in (round h q' a q₁) k = (move-within B F q' a (f (round h q' a q₁)) (S.answers h q' a q₁ k)).2

  pub standing_good : (m : Mode) (h : History) → KeepsTo B f q h → Good B m (standing B m h (f h))
  standing_good m h k = (
    (eased_lt m (accepts B (f h)) (owing B m h) (owing_lt B m h), red_in h k, blue_in h k),
    eased-live m (owing B m h) (accepts B (red h)) (accepts B (f h)),
  )

-- ---- a round

-- Red makes a move and Blue was placed by f: one round more
abbrev pub Onward : Board → (f : History → ℕ) → (h h' : History) → Type 0
Onward B f h h' = (a q : ℕ) × Moves B (red h) a q × (h' ≡ round h (f h) a q)
