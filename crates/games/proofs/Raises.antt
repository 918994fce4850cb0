-- The lifts that raise an entry: there is one among lifts of all positions unless the table was at rest, and there are at most P times T.
use mathlib.Core.Path.{◌≡◌, ◌∙◌}
use mathlib.Core.Logic.{◌⊎◌, inl, inr, ◌↔◌}
use mathlib.Core.List.{List, [], ◌∷◌, ◌++◌, Memᴰ}
use Prim.Native.Nat.{ℕ, zero, suc, ◌+◌, ◌*◌, ◌≤◌, ◌<◌, max}
use native.Mathlib.Nat.{le_trans, suc-mul}
use native.Mathlib.Omega.{arith}
use native.Mathlib.Decide.{dec_lt, ℕ_discrete}
use lib.ListN.{length, get_or, set}
use Rattle.games.specs.Game.{Game, asked, at}
use Rattle.games.specs.Lift.{cleared, lift, lifts, rise, raises, bound, AtRest, Covers}
use Rattle.games.proofs.Lift.{lift-same, lift-out, lift_still, lifts-entries, lifts-capped, cleared-entries, cleared-capped}

-- ---- no raise

rise-rest : (g : Game) (t : List ℕ) (v : ℕ) → v < length t → rise g t v ≡ 0 → asked g (at t) v ≤ at t v
rise-rest g t v h e = omega (arith, lift-same g t v h)

rise_still : (g : Game) (t : List ℕ) (v : ℕ) → rise g t v ≡ 0 → lift g t v ≡ t
rise_still g t v e = go (dec_lt v (length t))
  where
    go : Dec (v < length t) → lift g t v ≡ t
    go (yes h) = lift_still g t v (rise-rest g t v h e)
    go (no h) = lift-out g t v (omega arith)

-- "A position is at rest when a lift would not raise it"
pub rest_unraised : (g : Game) (t : List ℕ) (v : ℕ) → v < length t → (rise g t v ≡ 0) ↔ (asked g (at t) v ≤ at t v)
rest_unraised g t v h = (rise-rest g t v h, λ r. rw (lift_still g t v r) (omega arith))

unraised : (g : Game) (t : List ℕ) {v : ℕ} (vs : List ℕ) → raises g t vs ≡ 0 → Memᴰ v vs → v < length t → asked g (at t) v ≤ at t v
unraised g t vs e (Memᴰ.head {x = u} {xs = us} p) h = rw p (rise-rest g t u (rw (← p) h) (omega arith))
unraised g t vs e (Memᴰ.tail {x = u} {xs = us} m) h =
    unraised g t us (rw (rise_still g t u (omega arith)) at (let z : raises g (lift g t u) us ≡ 0 = omega arith in z)) m h

pub unraised_rest : (g : Game) (t vs : List ℕ) → length t ≡ g.P → ((v : ℕ) → at t v ≤ g.T) → Covers g vs → raises g t vs ≡ 0 → AtRest g t
unraised_rest g t vs l c all e = record { entries = l; capped = c; rest = λ v h. unraised g t vs e (all v h) (omega arith) }

-- "Lifting every position at least once raises something, unless the table was at rest."
pub rest-or-raised : (g : Game) (t vs : List ℕ) → length t ≡ g.P → ((v : ℕ) → at t v ≤ g.T) → Covers g vs → AtRest g t ⊎ (0 < raises g t vs)
rest-or-raised g t vs l c all = go (ℕ_discrete (raises g t vs) 0)
  where
    go : Dec (raises g t vs ≡ 0) → AtRest g t ⊎ (0 < raises g t vs)
    go (yes e) = inl (unraised_rest g t vs l c all e)
    go (no ne) = inr (omega arith)

-- ---- how many raises

pub raises_append : (g : Game) (us vs t : List ℕ) → raises g t (us ++ vs) ≡ raises g t us + raises g (lifts g t us) vs
raises_append g [] vs t = omega arith
raises_append g (u ∷ us) vs t = omega (arith, raises_append g us vs (lift g t u))

-- the sum of the entries, which each raise makes larger
abbrev pub total : List ℕ → ℕ
total [] = 0
total (x ∷ xs) = x + total xs

total_set : (t : List ℕ) (v x : ℕ) → v < length t → total (set t v x) + get_or t v 0 ≡ total t + x
total_set [] v x h = omega arith
total_set (y ∷ ys) zero x h = omega arith
total_set (y ∷ ys) (suc v) x h = omega (arith, total_set ys v x (omega arith))

total_lift : (g : Game) (t : List ℕ) (v : ℕ) → total t + rise g t v ≤ total (lift g t v)
unfolding lift
total_lift g t v = go (dec_lt v (length t))
  where
    go : Dec (v < length t) → total t + rise g t v ≤ total (lift g t v)
    go (yes h) = omega (arith, lift-same g t v h, total_set t v (max (at t v) (asked g (at t) v)) h)
    go (no h) = rw (lift-out g t v (omega arith)) (omega arith)

pub total_lifts : (g : Game) (vs t : List ℕ) → total t + raises g t vs ≤ total (lifts g t vs)
total_lifts g [] t = omega arith
total_lifts g (v ∷ vs) t = omega (arith, total_lift g t v, total_lifts g vs (lift g t v))

total_cap : (T : ℕ) (t : List ℕ) → ((v : ℕ) → at t v ≤ T) → total t ≤ length t * T
total_cap T [] c = omega arith
total_cap T (x ∷ xs) c = rw suc-mul (omega (arith, c 0, total_cap T xs (λ v. c (suc v))))

pub total_most : (g : Game) (vs t : List ℕ) → length t ≡ g.P → ((v : ℕ) → at t v ≤ g.T) → total t + raises g t vs ≤ bound g
total_most g vs t l c =
    le_trans (total_lifts g vs t) (rw (lifts-entries g vs t ∙ l) at (total_cap g.T (lifts g t vs) (lifts-capped g vs t l c)))

-- "The lifts that raised an entry never number more than positions times the largest entry allowed."
pub raises-most : (g : Game) (vs : List ℕ) → raises g (cleared g) vs ≤ bound g
raises-most g vs = omega (arith, total_most g vs (cleared g) (cleared-entries g) (cleared-capped g))
