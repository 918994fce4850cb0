-- Ranked families: Spoiler's positions that Duplicator holds, each with ranks that go on by the kinds of the positions.
-- The laws are proved with them; no promise cites them.
use Rattle.std.specs.Prelude.{◌≡◌, ◌≢◌, Bool, ℕ, ◌+◌, ◌≤◌, ◌<◌}
use mathlib.Core.List.{Memᴰ}
use Rattle.games.specs.Game.{Kind, lost}
use Rattle.games.specs.Play.{is_counting, is_resetting}
use Rattle.automaton.specs.declared.Mode.{Mode}
use Rattle.automaton.specs.Board.{Board, accepts}
use Rattle.simulation.specs.Moves.{targets}
use Rattle.simulation.specs.Position.{spoiler}
use Rattle.simulation.specs.Rules.{pended, eased, kind_of, owed}
use Rattle.simulation.proofs.Walks.{Good}

-- in R b q r k Duplicator holds Spoiler's position (q,r) with bit b, and k is a rank of it
abbrev pub Family : Type 1
Family = (b q r k : ℕ) → Type 0

-- how a rank k goes on to p from a position of a kind: anyhow if it resets, else no higher, and lower if it counts
abbrev pub Fall : Kind → (k p : ℕ) → Type 0
Fall c k p = is_resetting c ≡ 0 → is_counting c + p ≤ k

-- the bit b after a round in which Red has come to a state with mark x, then Blue to one with mark y
abbrev pub round : Mode → (red blue : Bool) → (b : ℕ) → ℕ
round m x y b = eased m y (pended m x b)

-- Blue's answer at (q,r) with bit b and rank k, Red having moved by the letter a to q': a move to a position that is held, and its rank there
pub record Answer (B : Board) (m : Mode) (R : Family) (b q r k a q' : ℕ) : Type 0 where
  pub to : ℕ
  pub rank : ℕ
  pub move : Memᴰ to (targets B r a)
  pub held : R (round m (accepts B q') (accepts B to) b) q' to rank
  pub fall : Fall (kind_of B m (spoiler b q r)) k rank

-- a family whose ranks lie below a bound: no position in it is out of range, idle or lost, and each move of Red's has an answer
pub record Ranked (B : Board) (m : Mode) (bound : ℕ) (R : Family) : Type 0 where
  pub bounded : {b q r k : ℕ} → R b q r k → k < bound
  pub good : {b q r k : ℕ} → R b q r k → Good B m (spoiler b q r)
  pub kept : {b q r k : ℕ} → R b q r k → kind_of B m (spoiler b q r) ≢ lost
  pub answer : {b q r k : ℕ} → R b q r k → (a q' : ℕ) → Memᴰ q' (targets B q a) → Answer B m R b q r k a q'

-- the beginning of the pair (q,r) is held
abbrev pub Begins : Board → Mode → Family → (q r : ℕ) → Type 0
Begins B m R q r = (k : ℕ) × R (owed m (accepts B q) (accepts B r)) q r k
