-- What a position asks, one step at a time: Spoiler's by the rule of its kind, Duplicator's by the steps that have risen.
use mathlib.Core.Path.{◌≡◌, refl}
use mathlib.Core.Logic.{◌≢◌, ◌⊎◌, inl, inr}
use mathlib.Core.List.{List, [], ◌∷◌, Memᴰ}
use Prim.Native.Nat.{ℕ, ◌≤◌, ◌<◌, min}
use native.Mathlib.Nat.{le_refl, le_trans}
use native.Mathlib.Omega.{arith}
use native.Mathlib.Decide.{dec_le}
use Rattle.games.specs.Game.{Kind, low, high, counting, resetting, idle, lost, ask, lowest, highest}
use Rattle.games.specs.Half.{rule}
use Rattle.games.proofs.Asked.{High, full_mono, lowest-cap, lowest_le, highest_ge, highest_in}

-- ---- Spoiler's positions

pub rule_asks : (k : Kind) → k ≢ low → (T : ℕ) (f : ℕ → ℕ) (ws : List ℕ) → ask k T f ws ≡ rule k T (highest f ws)
unfolding ask rule
rule_asks low n T f ws = absurd (n refl)
rule_asks high n T f ws = refl
rule_asks counting n T f ws = refl
rule_asks resetting n T f ws = refl
rule_asks idle n T f ws = refl
rule_asks lost n T f ws = refl

pub rule_mono : (k : Kind) (T a b : ℕ) → a ≤ b → rule k T a ≤ rule k T b
unfolding rule
rule_mono low T a b le = le_refl 0
rule_mono high T a b le = le
rule_mono counting T a b le = omega arith
rule_mono resetting T a b le = full_mono T a b le
rule_mono idle T a b le = le_refl 0
rule_mono lost T a b le = le_refl T

-- A position asks for at least what the rule makes of the entry at any of its steps,
pub rule-under : (k : Kind) → k ≢ low → (T : ℕ) (f : ℕ → ℕ) (ws : List ℕ) (w : ℕ) → Memᴰ w ws → rule k T (f w) ≤ ask k T f ws
rule-under k n T f ws w m = rw (rule_asks k n T f ws) (rule_mono k T (f w) (highest f ws) (highest_ge f m))

-- and, with or without steps, what it makes of 0;
pub rule-floor : (k : Kind) → k ≢ low → (T : ℕ) (f : ℕ → ℕ) (ws : List ℕ) → rule k T 0 ≤ ask k T f ws
rule-floor k n T f ws = rw (rule_asks k n T f ws) (rule_mono k T 0 (highest f ws) (omega arith))

-- and for no more than these.
pub rule-over : (k : Kind) → k ≢ low → (T : ℕ) (f : ℕ → ℕ) (ws : List ℕ) (b : ℕ) → rule k T 0 ≤ b
    → ((w : ℕ) → Memᴰ w ws → rule k T (f w) ≤ b) → ask k T f ws ≤ b
rule-over k n T f ws b none each = rw (rule_asks k n T f ws) (go (highest_in f ws))
  where
    go : High f ws (highest f ws) → rule k T (highest f ws) ≤ b
    go (inl e) = rw e none
    go (inr (w, m, h)) = le_trans (rule_mono k T (highest f ws) (f w) h) (each w m)

-- ---- Duplicator's positions

-- Low is T or the entry of one of them
pub lowest_in : (T : ℕ) (f : ℕ → ℕ) (ws : List ℕ) → (lowest T f ws ≡ T) ⊎ ((w : ℕ) × Memᴰ w ws × (f w ≡ lowest T f ws))
unfolding lowest
lowest_in T f [] = inl refl
lowest_in T f (v ∷ vs) = go (dec_le (f v) (lowest T f vs)) (lowest_in T f vs)
  where
    go : Dec (f v ≤ lowest T f vs) → (lowest T f vs ≡ T) ⊎ ((w : ℕ) × Memᴰ w vs × (f w ≡ lowest T f vs))
        → (min (f v) (lowest T f vs) ≡ T) ⊎ ((w : ℕ) × Memᴰ w (v ∷ vs) × (f w ≡ min (f v) (lowest T f vs)))
    go (yes p) r = inr (v, Memᴰ.head refl, omega arith)
    go (no p) (inl e) = inl (omega arith)
    go (no p) (inr (w, m, h)) = inr (w, Memᴰ.tail m, omega arith)

-- A position with entry e that was at rest over f is at rest over h, or one of its steps has risen from at most e.
pub low-risen : (T e : ℕ) (f h : ℕ → ℕ) (ws : List ℕ) → lowest T f ws ≤ e → (lowest T h ws ≤ e) ⊎ ((w : ℕ) × Memᴰ w ws × (f w ≤ e) × (f w < h w))
low-risen T e f h ws rest = go (lowest_in T f ws)
  where
    stayed : (w : ℕ) → Memᴰ w ws → f w ≤ e → Dec (h w ≤ f w) → (lowest T h ws ≤ e) ⊎ ((w : ℕ) × Memᴰ w ws × (f w ≤ e) × (f w < h w))
    stayed w m le (yes p) = inl (omega (arith, lowest_le T h m))
    stayed w m le (no p) = inr (w, m, le, omega arith)

    go : (lowest T f ws ≡ T) ⊎ ((w : ℕ) × Memᴰ w ws × (f w ≡ lowest T f ws)) → (lowest T h ws ≤ e) ⊎ ((w : ℕ) × Memᴰ w ws × (f w ≤ e) × (f w < h w))
    go (inl q) = inl (omega (arith, lowest-cap T h ws))
    go (inr (w, m, q)) = stayed w m (omega arith) (dec_le (h w) (f w))
