-- What a position asks: monotone in the table, at most T where the entries are, and a matter of the entries one step on alone.
use mathlib.Core.Path.{◌≡◌, refl}
use mathlib.Core.Logic.{◌⊎◌, inl, inr}
use mathlib.Core.Bool.{Bool, true, false}
use mathlib.Core.List.{List, [], ◌∷◌, Memᴰ}
use Prim.Native.Nat.{ℕ, ◌≤◌, ◌<◌, max}
use native.Mathlib.Nat.{le_refl}
use native.Mathlib.Omega.{arith}
use native.Mathlib.Decide.{dec_le}
use lib.Dec.{leb, leb→le, nleb→lt}
use Rattle.games.specs.Game.{Kind, low, high, counting, resetting, idle, lost, Game, ask, asked, lowest, highest, full, if_full}

-- ---- Low, High, and "T if High is T, else 0"

-- the two cases of `full`
abbrev pub Full : (T h x : ℕ) → Type 0
Full T h x = ((T ≤ h) × (x ≡ T)) ⊎ ((h < T) × (x ≡ 0))

pub full-cases : (T h : ℕ) → Full T h (full T h)
unfolding full
full-cases T h = go (leb T h) refl
  where
    go : (b : Bool) → leb T h ≡ b → Full T h (if_full b T)
    go true e = inl (leb→le T h (rw e tt), refl)
    go false e = inr (nleb→lt T h (rw e tt), refl)

pub full_miss : (T h : ℕ) → h < T → full T h ≡ 0
full_miss T h lt = go (full-cases T h)
  where
    go : Full T h (full T h) → full T h ≡ 0
    go (inl p) = omega arith
    go (inr p) = p.1

pub lowest_le : (T : ℕ) (f : ℕ → ℕ) {w : ℕ} {ws : List ℕ} → Memᴰ w ws → lowest T f ws ≤ f w
unfolding lowest
lowest_le T f (Memᴰ.head {x = v} {xs = vs} e) = rw e (omega arith)
lowest_le T f (Memᴰ.tail {x = v} {xs = vs} m) = omega (arith, lowest_le T f m)

pub lowest_ge : (T x : ℕ) (f : ℕ → ℕ) (ws : List ℕ) → x ≤ T → ((w : ℕ) → Memᴰ w ws → x ≤ f w) → x ≤ lowest T f ws
unfolding lowest
lowest_ge T x f [] c h = c
lowest_ge T x f (v ∷ vs) c h = omega (arith, h v (Memᴰ.head refl), lowest_ge T x f vs c (λ w m. h w (Memᴰ.tail m)))

pub highest_ge : (f : ℕ → ℕ) {w : ℕ} {ws : List ℕ} → Memᴰ w ws → f w ≤ highest f ws
unfolding highest
highest_ge f (Memᴰ.head {x = v} {xs = vs} e) = rw e (omega arith)
highest_ge f (Memᴰ.tail {x = v} {xs = vs} m) = omega (arith, highest_ge f m)

-- High is 0 or the entry of one of them
abbrev pub High : (f : ℕ → ℕ) (ws : List ℕ) → ℕ → Type 0
High f ws h = (h ≡ 0) ⊎ ((w : ℕ) × Memᴰ w ws × (h ≤ f w))

pub highest_in : (f : ℕ → ℕ) (ws : List ℕ) → High f ws (highest f ws)
unfolding highest
highest_in f [] = inl refl
highest_in f (v ∷ vs) = go (dec_le (highest f vs) (f v)) (highest_in f vs)
  where
    go : Dec (highest f vs ≤ f v) → High f vs (highest f vs) → High f (v ∷ vs) (max (f v) (highest f vs))
    go (yes p) r = inr (v, Memᴰ.head refl, omega arith)
    go (no p) (inl e) = absurd (omega arith)
    go (no p) (inr (w, m, h)) = inr (w, Memᴰ.tail m, omega arith)

-- ---- monotone

lowest_mono : (T : ℕ) (f h : ℕ → ℕ) → ((w : ℕ) → f w ≤ h w) → (ws : List ℕ) → lowest T f ws ≤ lowest T h ws
unfolding lowest
lowest_mono T f h le [] = le_refl _
lowest_mono T f h le (v ∷ vs) = omega (arith, le v, lowest_mono T f h le vs)

highest_mono : (f h : ℕ → ℕ) → ((w : ℕ) → f w ≤ h w) → (ws : List ℕ) → highest f ws ≤ highest h ws
unfolding highest
highest_mono f h le [] = le_refl 0
highest_mono f h le (v ∷ vs) = omega (arith, le v, highest_mono f h le vs)

pub full_mono : (T a b : ℕ) → a ≤ b → full T a ≤ full T b
full_mono T a b le = go (full-cases T a) (full-cases T b)
  where
    go : Full T a (full T a) → Full T b (full T b) → full T a ≤ full T b
    go (inl p) (inl q) = omega arith
    go (inl p) (inr q) = omega arith
    go (inr p) (inl q) = omega arith
    go (inr p) (inr q) = omega arith

ask_mono : (k : Kind) (T : ℕ) (f h : ℕ → ℕ) → ((w : ℕ) → f w ≤ h w) → (ws : List ℕ) → ask k T f ws ≤ ask k T h ws
unfolding ask
ask_mono low T f h le ws = lowest_mono T f h le ws
ask_mono high T f h le ws = highest_mono f h le ws
ask_mono counting T f h le ws = omega (arith, highest_mono f h le ws)
ask_mono resetting T f h le ws = full_mono T _ _ (highest_mono f h le ws)
ask_mono idle T f h le ws = le_refl 0
ask_mono lost T f h le ws = le_refl _

pub asked_mono : (g : Game) (f h : ℕ → ℕ) → ((w : ℕ) → f w ≤ h w) → (v : ℕ) → asked g f v ≤ asked g h v
asked_mono g f h le v = ask_mono (g.kind v) g.T f h le (g.next v)

-- ---- at most T

pub lowest-cap : (T : ℕ) (f : ℕ → ℕ) (ws : List ℕ) → lowest T f ws ≤ T
unfolding lowest
lowest-cap T f [] = omega arith
lowest-cap T f (v ∷ vs) = omega (arith, lowest-cap T f vs)

highest-cap : (T : ℕ) (f : ℕ → ℕ) → ((w : ℕ) → f w ≤ T) → (ws : List ℕ) → highest f ws ≤ T
unfolding highest
highest-cap T f c [] = omega arith
highest-cap T f c (v ∷ vs) = omega (arith, c v, highest-cap T f c vs)

full-cap : (T h : ℕ) → full T h ≤ T
full-cap T h = go (full-cases T h)
  where
    go : Full T h (full T h) → full T h ≤ T
    go (inl p) = omega arith
    go (inr p) = omega arith

ask-cap : (k : Kind) (T : ℕ) (f : ℕ → ℕ) → ((w : ℕ) → f w ≤ T) → (ws : List ℕ) → ask k T f ws ≤ T
unfolding ask
ask-cap low T f c ws = lowest-cap T f ws
ask-cap high T f c ws = highest-cap T f c ws
ask-cap counting T f c ws = omega arith
ask-cap resetting T f c ws = full-cap T _
ask-cap idle T f c ws = omega arith
ask-cap lost T f c ws = omega arith

pub asked-cap : (g : Game) (f : ℕ → ℕ) → ((w : ℕ) → f w ≤ g.T) → (v : ℕ) → asked g f v ≤ g.T
asked-cap g f c v = ask-cap (g.kind v) g.T f c (g.next v)

-- ---- a matter of the entries one step on

abbrev Agree : (f h : ℕ → ℕ) (ws : List ℕ) → Type 0
Agree f h ws = (w : ℕ) → Memᴰ w ws → f w ≡ h w

lowest_local : (T : ℕ) (f h : ℕ → ℕ) (ws : List ℕ) → Agree f h ws → lowest T f ws ≡ lowest T h ws
unfolding lowest
lowest_local T f h [] e = refl
lowest_local T f h (v ∷ vs) e = rw (e v (Memᴰ.head refl), lowest_local T f h vs (λ w m. e w (Memᴰ.tail m)))

highest_local : (f h : ℕ → ℕ) (ws : List ℕ) → Agree f h ws → highest f ws ≡ highest h ws
unfolding highest
highest_local f h [] e = refl
highest_local f h (v ∷ vs) e = rw (e v (Memᴰ.head refl), highest_local f h vs (λ w m. e w (Memᴰ.tail m)))

ask_local : (k : Kind) (T : ℕ) (f h : ℕ → ℕ) (ws : List ℕ) → Agree f h ws → ask k T f ws ≡ ask k T h ws
unfolding ask
ask_local low T f h ws e = lowest_local T f h ws e
ask_local high T f h ws e = highest_local f h ws e
ask_local counting T f h ws e = rw (highest_local f h ws e)
ask_local resetting T f h ws e = rw (highest_local f h ws e)
ask_local idle T f h ws e = refl
ask_local lost T f h ws e = refl

pub asked_local : (g : Game) (f h : ℕ → ℕ) (v : ℕ) → ((w : ℕ) → Memᴰ w (g.next v) → f w ≡ h w) → asked g f v ≡ asked g h v
asked_local g f h v e = ask_local (g.kind v) g.T f h (g.next v) e
