-- Replies to a least entry of a table.
use Rattle.std.specs.Prelude.{◌≡◌, Bool, true, false, ℕ, ◌≤◌, ◌<◌, leb}
use mathlib.Core.List.{List, [], ◌∷◌, Memᴰ}
use Rattle.games.specs.Game.{low, Game, at}
use Rattle.games.specs.Play.{Choice}

-- σ always replies to a least entry; which of several does not matter
pub record LeastReplies (g : Game) (t : List ℕ) (σ : ℕ → ℕ) : Type 0 where
  pub choice : Choice g σ
  pub least : (v : ℕ) → v < g.P → g.kind v ≡ low → (w : ℕ) → Memᴰ w (g.next v) → at t (σ v) ≤ at t w

-- the first of v and the positions vs, in the order of the list, with a least entry
abbrev pub better : Bool → (v w : ℕ) → ℕ
better true v w = v
better false v w = w

unfoldable pub first_least : (entry : ℕ → ℕ) → (v : ℕ) → (vs : List ℕ) → ℕ
first_least f v [] = v
first_least f v (w ∷ ws) = better (leb (f v) (f (first_least f w ws))) v (first_least f w ws)

-- the same of a list that may be empty; then it is 0
abbrev pub pick : (entry : ℕ → ℕ) → List ℕ → ℕ
pick f [] = 0
pick f (v ∷ vs) = first_least f v vs
