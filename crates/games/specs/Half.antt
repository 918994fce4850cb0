-- Half-rounds: what a sweep does to Spoiler's positions and then to Duplicator's. Private functions promise it to each other, and no public promise cites it.
use Rattle.std.specs.Prelude.{◌≡◌, ◌⊎◌, ℕ, zero, suc, ◌+◌, ◌-◌, ◌≤◌, ◌<◌, min, max, length}
use mathlib.Core.List.{List, Memᴰ}
use Rattle.games.specs.Game.{Kind, low, high, counting, resetting, idle, lost, Game, full, asked, at}

-- how many of the first m entries are greater in u than in t
abbrev pub rose : (t u : List ℕ) → (m : ℕ) → ℕ
rose t u zero = 0
rose t u (suc m) = rose t u m + min 1 (at u m - at t m)

-- no step leads from a position of the stretch from lo up to hi to one of that stretch
abbrev pub Apart : Game → (lo hi : ℕ) → Type 0
Apart g lo hi = (v w : ℕ) → lo ≤ v → v < hi → Memᴰ w (g.next v) → lo ≤ w → w < hi → ⊥

-- every entry of the stretch has become the greater of itself and of what t asks for there, and no other entry has changed
pub record Halved (g : Game) (lo hi : ℕ) (t u : List ℕ) : Type 0 where
  pub entries : length u ≡ length t
  pub inside : (v : ℕ) → lo ≤ v → v < hi → at u v ≡ max (at t v) (asked g (at t) v)
  pub outside : (v : ℕ) → (v < lo) ⊎ (hi ≤ v) → at u v ≡ at t v

-- what Spoiler's position of a kind asks for when High, its greatest entry one step on, is h; Duplicator's kind has no part in it and gives 0
unfoldable pub rule : Kind → (T h : ℕ) → ℕ
rule low T h = 0
rule high T h = h
rule counting T h = min (suc h) T
rule resetting T h = full T h
rule idle T h = 0
rule lost T h = T
