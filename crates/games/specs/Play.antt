-- Who wins a position: a choice for Duplicator, judged by all finite walks that keep to it. No entry of a table is spoken of.
use Rattle.std.specs.Prelude.{◌≡◌, ◌≢◌, ℕ, zero, suc, ◌+◌, ◌<◌}
use mathlib.Core.List.{[], Memᴰ}
use Rattle.games.specs.Game.{Kind, low, high, counting, resetting, idle, lost, Game}

-- 1 for a counting position, 0 for any other
abbrev pub is_counting : Kind → ℕ
is_counting low = 0
is_counting high = 0
is_counting counting = 1
is_counting resetting = 0
is_counting idle = 0
is_counting lost = 0

-- 1 for a resetting position, 0 for any other
abbrev pub is_resetting : Kind → ℕ
is_resetting low = 0
is_resetting high = 0
is_resetting counting = 0
is_resetting resetting = 1
is_resetting idle = 0
is_resetting lost = 0

-- Play goes on at every position but an idle one.
abbrev pub Live : Game → ℕ → Type 0
Live g v = g.kind v ≢ idle

-- a step that keeps to the choice σ
pub record Step (g : Game) (σ : ℕ → ℕ) (v w : ℕ) : Type 0 where
  pub edge : Memᴰ w (g.next v)
  pub chosen : g.kind v ≡ low → w ≡ σ v
  pub live : Live g v

-- the finite walks from v that keep to σ
pub data Walk (g : Game) (σ : ℕ → ℕ) (v : ℕ) : ℕ → Type 0 where
  stop : {u : ℕ} → v ≡ u → Walk g σ v u
  more : {u w : ℕ} → Walk g σ v u → Step g σ u w → Walk g σ v w

-- how many counting, and how many resetting, positions a walk leaves
module _ {g : Game} {σ : ℕ → ℕ} {v : ℕ} where
  abbrev pub counts : {u : ℕ} → Walk g σ v u → ℕ
  counts (stop e) = 0
  counts (more {u = u} c s) = counts c + is_counting (g.kind u)

  abbrev pub resets : {u : ℕ} → Walk g σ v u → ℕ
  resets (stop e) = 0
  resets (more {u = u} c s) = resets c + is_resetting (g.kind u)

-- "one move can be chosen for each Duplicator position that has moves"
abbrev pub Choice : Game → (σ : ℕ → ℕ) → Type 0
Choice g σ = (v : ℕ) → v < g.P → g.kind v ≡ low → g.next v ≢ [] → Memᴰ (σ v) (g.next v)

-- The choice σ wins from v: no walk reaches a Duplicator's position without moves, none a lost one,
-- and a walk that returns to where it began with a counting position on it has a resetting one too.
pub record Wins (g : Game) (σ : ℕ → ℕ) (v : ℕ) : Type 0 where
  pub choice : Choice g σ
  pub alive : (u : ℕ) → Walk g σ v u → g.kind u ≡ low → g.next u ≢ []
  pub kept : (u : ℕ) → Walk g σ v u → g.kind u ≢ lost
  pub fair : (u : ℕ) → Walk g σ v u → (c : Walk g σ u u) → 0 < counts c → 0 < resets c

abbrev pub Won : Game → ℕ → Type 0
Won g v = (σ : ℕ → ℕ) × Wins g σ v

-- the sum of p over the numbers below n
abbrev pub count : (p : ℕ → ℕ) → (n : ℕ) → ℕ
count p zero = 0
count p (suc n) = p n + count p n

-- the number of counting positions
abbrev pub counting_in : Game → ℕ
counting_in g = count (λ v. is_counting (g.kind v)) g.P
