-- Where a position of a game is not won, Spoiler can draw play to a lost position, or to a counting one and on to a position that is not won either.
use mathlib.Core.Path.{◌≡◌, refl}
use mathlib.Core.Logic.{◌≢◌, ◌⊎◌, inl, inr}
use mathlib.Core.List.{List, Memᴰ}
use Prim.Native.Nat.{ℕ, suc, ◌≤◌, ◌<◌}
use native.Mathlib.Nat.{le_refl}
use native.Mathlib.Omega.{arith}
use native.Mathlib.Decide.{dec_lt}
use Rattle.games.specs.Game.{Kind, low, high, counting, resetting, idle, lost, Game, Inward, ask, at, lowest, highest, full}
use Rattle.games.specs.Lift.{Least}
use Rattle.games.specs.Play.{counting_in}
use Rattle.games.specs.Measure.{Upheld, Ranked}
use Rattle.games.proofs.Asked.{Full, full-cases, highest_ge}
use Rattle.games.proofs.Complete.{apart}
use Rattle.games.proofs.Rule.{lowest_in}
use Rattle.games.proofs.Measure.{ranked_won}
use Rattle.games.proofs.Verdict.{verdict}
use Rattle.plays.proofs.Finite.{without}

-- Spoiler can bring play from a position to a lost one, or to a counting one that has a step into Y.
pub data Drawn (g : Game) (Y : ℕ → Type 0) : ℕ → Type 0 where
  ended : {v : ℕ} → g.kind v ≡ lost → Drawn g Y v
  all : {v : ℕ} → g.kind v ≡ low → ((w : ℕ) → Memᴰ w (g.next v) → Drawn g Y w) → Drawn g Y v
  one : {v w : ℕ} → g.kind v ≡ high → Memᴰ w (g.next v) → Drawn g Y w → Drawn g Y v
  into : {v w : ℕ} → g.kind v ≡ counting → Memᴰ w (g.next v) → Y w → Drawn g Y v

pub idle_undrawn : {g : Game} {Y : ℕ → Type 0} {v : ℕ} → Drawn g Y v → g.kind v ≢ idle
idle_undrawn (ended e) i = apart (cc)
idle_undrawn (all e f) i = apart (cc)
idle_undrawn (one e m x) i = apart (cc)
idle_undrawn (into e m y) i = apart (cc)

-- not won, by the least table: the entry is T
abbrev pub Lost : Game → (table : List ℕ) → ℕ → Type 0
Lost g t v = g.T ≤ at t v

-- A position that has all it asks for is upheld with its entry m below T, where each entry below T is a rank.
module _ (T : ℕ) (f : ℕ → ℕ) (ws : List ℕ) (R : ℕ → ℕ → Type 0) (rank : (w : ℕ) → Memᴰ w ws → f w < T → R w (f w)) (m : ℕ) (h : m < T) where
  pub rest-upheld : (k : Kind) → ask k T f ws ≤ m → Upheld k R ws m
  unfolding ask
  rest-upheld low a = go (lowest_in T f ws)
    where
      go : (lowest T f ws ≡ T) ⊎ ((w : ℕ) × Memᴰ w ws × (f w ≡ lowest T f ws)) → Upheld low R ws m
      go (inl e) = absurd (omega arith)
      go (inr (w, i, e)) = (w, i, (f w, omega arith, rank w i (omega arith)))
  rest-upheld high a = λ w i. (f w, omega (arith, highest_ge f i), rank w i (omega (arith, highest_ge f i)))
  rest-upheld counting a = (omega arith, λ w i. (f w, omega (arith, highest_ge f i), rank w i (omega (arith, highest_ge f i))))
  rest-upheld resetting a = λ w i. (f w, rank w i (go w i (full-cases T (highest f ws))))
    where
      go : (w : ℕ) → Memᴰ w ws → Full T (highest f ws) (full T (highest f ws)) → f w < T
      go w i (inl p) = absurd (omega arith)
      go w i (inr p) = omega (arith, highest_ge f i)
  rest-upheld idle a = tt
  rest-upheld lost a = absurd (omega arith)

module _ (g : Game) (ins : Inward g) (never : (v : ℕ) → g.kind v ≢ resetting) (enough : counting_in g < g.T) (t : List ℕ) (least : Least g t) where
  module _ (d : (v : ℕ) → Dec ((v < g.P) × Drawn g (Lost g t) v)) where
    -- Entries below T are ranks, and T is one where play is not drawn.
    abbrev Rank : ℕ → ℕ → Type 0
    Rank v p = ((p ≡ at t v) × (p < g.T)) ⊎ ((¬ Drawn g (Lost g t) v) × (p ≡ g.T))

    undrawn_upheld : (v : ℕ) → v < g.P → (¬ Drawn g (Lost g t) v) → (k : Kind) → g.kind v ≡ k → Upheld k Rank (g.next v) g.T
    undrawn_upheld v i n low e = go (without (Drawn g (Lost g t)) (g.next v) (λ w m. sure w (ins v i w m) (d w)))
      where
        sure : (w : ℕ) → w < g.P → Dec ((w < g.P) × Drawn g (Lost g t) w) → Dec (Drawn g (Lost g t) w)
        sure w l (yes p) = yes p.1
        sure w l (no p) = no (λ x. p (l, x))

        go : ((w : ℕ) × Memᴰ w (g.next v) × (¬ Drawn g (Lost g t) w)) ⊎ ((w : ℕ) → Memᴰ w (g.next v) → Drawn g (Lost g t) w) → Upheld low Rank (g.next v) g.T
        go (inl (w, m, x)) = (w, m, (g.T, le_refl g.T, inr (x, refl)))
        go (inr x) = absurd (n (all e x))
    undrawn_upheld v i n high e = λ w m. (g.T, le_refl g.T, inr (λ x. n (one e m x), refl))
    undrawn_upheld v i n counting e = (omega arith, λ w m. go w m (dec_lt (at t w) g.T))
      where
        go : (w : ℕ) → Memᴰ w (g.next v) → Dec (at t w < g.T) → (p : ℕ) × (p < g.T) × Rank w p
        go w m (yes l) = (at t w, l, inl (refl, l))
        go w m (no l) = absurd (n (into e m (omega arith)))
    undrawn_upheld v i n resetting e = absurd (never v e)
    undrawn_upheld v i n idle e = tt
    undrawn_upheld v i n lost e = absurd (n (ended e))

    ranked : Ranked g (suc g.T) Rank
    ranked = record { bounded = bounded; upheld = upheld }
      where
        bounded : (v m : ℕ) → Rank v m → m < suc g.T
        bounded v m (inl r) = omega arith
        bounded v m (inr r) = omega arith

        upheld : (v m : ℕ) → v < g.P → Rank v m → Upheld (g.kind v) Rank (g.next v) m
        upheld v m i (inl (e, l)) = rest-upheld g.T (at t) (g.next v) Rank (λ w j b. inl (refl, b)) m l (g.kind v) (rw e (least.at_rest.rest v i))
        upheld v m i (inr (n, e)) = rw e (undrawn_upheld v i n (g.kind v) refl)

    pub lost_drawn : (v : ℕ) → v < g.P → Lost g t v → Drawn g (Lost g t) v
    lost_drawn v i f = go (d v)
      where
        go : Dec ((v < g.P) × Drawn g (Lost g t) v) → Drawn g (Lost g t) v
        go (yes p) = p.1
        go (no p) =
            absurd (omega (arith, (verdict g ins enough t least v i).1 (ranked_won g ins (suc g.T) Rank ranked v g.T i (inr (λ x. p (i, x), refl)))))
