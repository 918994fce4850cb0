-- "What a number means in play": what is promised to whoever follows the replies.
use Rattle.std.specs.Prelude.{◌≡◌, ◌⊎◌, true, not, ◌&&◌, ℕ, zero, suc, ◌+◌, ◌≤◌, ◌<◌}
use mathlib.Core.List.{List, Memᴰ}
use Rattle.games.specs.Game.{at}
use Rattle.automaton.specs.declared.Mode.{Mode}
use Rattle.automaton.specs.declared.Mode.TheVariants.{Delayed}
use Rattle.automaton.specs.Board.{Board, accepts}
use Rattle.simulation.specs.Position.{Position, spoiler, duplicator, number, Fits}
use Rattle.simulation.specs.Rules.{bit, steps, ceiling}
use Rattle.simulation.specs.Answers.{entry_after, replies}
use Rattle.simulation.specs.Moves.{Moves}
use Rattle.simulation.specs.Won.{Choices, Keeps, Walks, here, onward, Met}

-- ---- the reply

-- "the lowest numbered r' among moves to the least entry": s is that of Duplicator's (q,r,a) with bit b
pub record LowestLeast (B : Board) (m : Mode) (t : List ℕ) (b q r a s : ℕ) : Type 0 where
  pub move : Moves B r a s
  pub least : (r' : ℕ) → Moves B r a r' → entry_after B m t b q s ≤ entry_after B m t b q r'
  pub lowest : (r' : ℕ) → Moves B r a r' → entry_after B m t b q r' ≤ entry_after B m t b q s → s ≤ r'

-- "following the replies": wherever Duplicator's position is not lost, σ takes the reply
abbrev pub Heeds : Board → Mode → (table : List ℕ) → Choices → Type 0
Heeds B m t σ = (b q r a : ℕ) → Fits B m (duplicator b q r a) → at t (number B m (duplicator b q r a)) < ceiling B m → σ b q r a ≡ replies B m t b q r a

-- ---- mode 2

-- "brings b to 0 within m rounds, or Spoiler has no move first", with n for m: b is 0 here, or there is a round left
-- and to each of Spoiler's moves Duplicator has the move of σ, which brings b to 0 within one round fewer.
abbrev pub Brings : Board → Choices → (n : ℕ) → Position → Type 0
Brings B σ zero p = Met p
Brings B σ (suc n) p = Met p ⊎ ((w : Position) → Memᴰ w (steps B Delayed p) → (w' : Position) × Keeps B Delayed σ w w' × Brings B σ n w')

-- "With b = 1 and q' accepting the position is idle"
abbrev pub Idle : Board → Position → Type 0
Idle B (spoiler b q r) = (b ≡ 1) × (accepts B r ≡ true)
Idle B (duplicator b q r a) = ⊥

-- a play from p, whatever the players choose
pub data Plays (B : Board) (m : Mode) (p : Position) : Position → Type 0 where
  starts : {u : Position} → p ≡ u → Plays B m p u
  goes : {u w : Position} → Plays B m p u → Memᴰ w (steps B m u) → Plays B m p w

-- ---- mode 3

-- 1 at a Spoiler's position "with Red accepting and Blue not"
abbrev pub ahead : Board → Position → ℕ
ahead B (spoiler b q r) = bit (accepts B q && not (accepts B r))
ahead B (duplicator b q r a) = 0

module _ {B : Board} {m : Mode} {σ : Choices} {p : Position} where
  -- the sum of f over the positions that a walk leaves
  abbrev pub tally : (f : Position → ℕ) → {u : Position} → Walks B m σ p u → ℕ
  tally f (here e) = 0
  tally f (onward {u = u} c s) = tally f c + f u

  -- the sum over all its positions, the two ends counted
  abbrev pub tally_all : (f : Position → ℕ) → {u : Position} → Walks B m σ p u → ℕ
  tally_all f {u} c = tally f c + f u

  -- a position of which X holds comes before the end of the walk
  abbrev pub Leaves : (X : Position → Type 0) → {u : Position} → Walks B m σ p u → Type 0
  Leaves X (here e) = ⊥
  Leaves X (onward {u = u} c s) = Leaves X c ⊎ X u
