-- A won pair, sentence by sentence as document 01 gives it. "No entry of a table is spoken of here".
use Rattle.std.specs.Prelude.{◌≡◌, ◌≢◌, ◌⊎◌, true, false, ℕ, suc, ◌<◌}
use mathlib.Core.List.{[], Memᴰ}
use Rattle.automaton.specs.declared.Mode.{Mode}
use Rattle.automaton.specs.declared.Mode.TheVariants.{Ordinary, Direct, Delayed, Fair}
use Rattle.automaton.specs.Board.{Board, accepts}
use Rattle.simulation.specs.Moves.{targets}
use Rattle.simulation.specs.Position.{Position, spoiler, duplicator, Fits}
use Rattle.simulation.specs.Rules.{steps, reply, beginning}

-- ---- choices and walks

-- the state r' to which Duplicator moves Blue at (q,q',a) with bit b
abbrev pub Choices : Type 0
Choices = (b q r a : ℕ) → ℕ

-- "one move can be chosen for each Duplicator position that has moves"
abbrev pub Chosen : Board → Mode → Choices → Type 0
Chosen B m σ = (b q r a : ℕ) → Fits B m (duplicator b q r a) → targets B r a ≢ [] → Memᴰ (σ b q r a) (targets B r a)

-- w is where the choice leads, if Duplicator is to move
abbrev pub Follows : Board → Mode → Choices → (u w : Position) → Type 0
Follows B m σ (spoiler b q r) w = Unit {0}
Follows B m σ (duplicator b q r a) w = w ≡ reply B m b q (σ b q r a)

-- a step that keeps to the choice
pub record Keeps (B : Board) (m : Mode) (σ : Choices) (u w : Position) : Type 0 where
  pub step : Memᴰ w (steps B m u)
  pub follows : Follows B m σ u w

-- "all finite walks .. that keep to the choice"
pub data Walks (B : Board) (m : Mode) (σ : Choices) (p : Position) : Position → Type 0 where
  here : {u : Position} → p ≡ u → Walks B m σ p u
  onward : {u w : Position} → Walks B m σ p u → Keeps B m σ u w → Walks B m σ p w

module _ {B : Board} {m : Mode} {σ : Choices} {p : Position} where
  -- how many steps a walk has
  abbrev pub long : {u : Position} → Walks B m σ p u → ℕ
  long (here e) = 0
  long (onward c s) = suc (long c)

  -- a position of which X holds is on the walk, its two ends counted
  abbrev pub Meets : (X : Position → Type 0) → {u : Position} → Walks B m σ p u → Type 0
  Meets X (here {u = u} e) = X u
  Meets X (onward {w = w} c s) = Meets X c ⊎ X w

-- ---- what the positions on a walk are judged by

-- "a Duplicator position without moves"
abbrev pub Stuck : Board → Position → Type 0
Stuck B (spoiler b q r) = ⊥
Stuck B (duplicator b q r a) = targets B r a ≡ []

-- "a Spoiler's position with b = 1"
abbrev pub Pending : Position → Type 0
Pending (spoiler b q r) = b ≡ 1
Pending (duplicator b q r a) = ⊥

-- a Spoiler's position "with b = 0"
abbrev pub Met : Position → Type 0
Met (spoiler b q r) = b ≡ 0
Met (duplicator b q r a) = ⊥

-- "a Spoiler's position with q accepting and q' not"
abbrev pub Ahead : Board → Position → Type 0
Ahead B (spoiler b q r) = (accepts B q ≡ true) × (accepts B r ≡ false)
Ahead B (duplicator b q r a) = ⊥

-- "a Spoiler's position with q' accepting"
abbrev pub Answered : Board → Position → Type 0
Answered B (spoiler b q r) = accepts B r ≡ true
Answered B (duplicator b q r a) = ⊥

-- ---- won

-- "a stretch of one or more steps that returns to where it began", on a walk from p, and "meets" X, "also meets" Y
abbrev pub Returning : (B : Board) (m : Mode) (σ : Choices) (p : Position) (X Y : Position → Type 0) → Type 0
Returning B m σ p X Y = (u : Position) → Walks B m σ p u → (c : Walks B m σ u u) → 0 < long c → Meets X c → Meets Y c

abbrev pub Obeys : Board → Mode → Choices → Position → Type 0
Obeys B Ordinary σ p = Unit {0}
-- "In mode 1 none reaches a Spoiler's position, the beginning included, with q accepting and q' not."
Obeys B Direct σ p = (u : Position) → Walks B Direct σ p u → Ahead B u → ⊥
-- "In mode 2 a stretch of one or more steps that returns to where it began, and meets a Spoiler's position with b = 1, also meets one with b = 0."
Obeys B Delayed σ p = Returning B Delayed σ p Pending Met
-- "In mode 3 such a stretch that meets a Spoiler's position with q accepting and q' not also meets a Spoiler's position with q' accepting."
Obeys B Fair σ p = Returning B Fair σ p (Ahead B) (Answered B)

-- "this holds of all finite walks from the beginning that keep to the choice"
pub record WonBy (B : Board) (m : Mode) (σ : Choices) (p : Position) : Type 0 where
  pub chosen : Chosen B m σ
  -- "No walk reaches a Duplicator position without moves."
  pub alive : (u : Position) → Walks B m σ p u → Stuck B u → ⊥
  pub obeys : Obeys B m σ p

-- "The pair (q,q') .. is won exactly if one move can be chosen .."
abbrev pub WonPair : Board → Mode → (q r : ℕ) → Type 0
WonPair B m q r = (σ : Choices) × WonBy B m σ (beginning B m q r)
