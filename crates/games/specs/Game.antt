-- A finite game: its positions, and the value that each asks for.
use Rattle.std.specs.Prelude.{Bool, true, false, ℕ, suc, ◌<◌, min, max, leb, get_or}
use mathlib.Core.List.{List, [], ◌∷◌, Memᴰ}

-- The six ways in which a position asks. Duplicator moves at a low one, and Spoiler at the others.
pub data Kind : Type 0 where
  low high counting resetting idle lost : Kind

-- Positions 0 to P-1 and the ceiling T; the positions one step on, and the kind, of each.
pub record Game : Type 0 where
  pub P : ℕ
  pub T : ℕ
  pub next : ℕ → List ℕ
  pub kind : ℕ → Kind

-- Every step from a position leads to a position. A contract names a game before this is shown of it, so it is no part of the game.
abbrev pub Inward : Game → Type 0
Inward g = (v : ℕ) → v < g.P → (w : ℕ) → Memᴰ w (g.next v) → w < g.P

-- "Dead ends are allowed. A player who cannot move loses": with no step on, Spoiler's High is 0 and Duplicator's Low is T.
-- "High is the greatest entry one step on, 0 if there is none."
unfoldable pub highest : (entry : ℕ → ℕ) → List ℕ → ℕ
highest f [] = 0
highest f (w ∷ ws) = max (f w) (highest f ws)

-- "Low is the least, T if there is none."
unfoldable pub lowest : (T : ℕ) → (entry : ℕ → ℕ) → List ℕ → ℕ
lowest T f [] = T
lowest T f (w ∷ ws) = min (f w) (lowest T f ws)

-- "T if High is T, else 0"
abbrev pub if_full : Bool → ℕ → ℕ
if_full true T = T
if_full false T = 0

unfoldable pub full : (T h : ℕ) → ℕ
full T h = if_full (leb T h) T

-- "The value asked for at a position"
unfoldable pub ask : Kind → (T : ℕ) → (entry : ℕ → ℕ) → List ℕ → ℕ
ask low T f ws = lowest T f ws
ask high T f ws = highest f ws
-- "the lesser of High+1 and T"
ask counting T f ws = min (suc (highest f ws)) T
ask resetting T f ws = full T (highest f ws)
ask idle T f ws = 0
ask lost T f ws = T

abbrev pub asked : Game → (entry : ℕ → ℕ) → ℕ → ℕ
asked g f v = ask (g.kind v) g.T f (g.next v)

-- the entry of a table at a position, 0 where it has none
abbrev pub at : (table : List ℕ) → ℕ → ℕ
at t v = get_or t v 0
