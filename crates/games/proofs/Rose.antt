-- Laws of the number of entries that rose.
use mathlib.Core.Path.{◌≡◌, refl, ap, ◌∙◌}
use mathlib.Core.Logic.{◌⊎◌, inl, inr}
use mathlib.Core.List.{List}
use Prim.Native.Nat.{ℕ, zero, suc, ◌+◌, ◌-◌, ◌≤◌, ◌<◌, min}
use native.Mathlib.Omega.{arith}
use native.Mathlib.Decide.{ℕ_discrete}
use lib.ListN.{length, set}
use lib.Seq.{get_or-set_same, get_or-set_other}
use Rattle.games.specs.Game.{at}
use Rattle.games.specs.Half.{rose}

-- ---- any two tables

pub rose-none : (t : List ℕ) (m : ℕ) → rose t t m ≡ 0
rose-none t zero = refl
rose-none t (suc m) = omega (arith, rose-none t m)

pub rose-most : (t u : List ℕ) (m : ℕ) → rose t u m ≤ m
rose-most t u zero = omega arith
rose-most t u (suc m) = omega (arith, rose-most t u m)

-- nothing rose, so nothing changed
pub rose-zero : (t u : List ℕ) (m : ℕ) → ((v : ℕ) → at t v ≤ at u v) → rose t u m ≡ 0 → (v : ℕ) → v < m → at u v ≡ at t v
rose-zero t u zero le e v h = absurd (omega arith)
rose-zero t u (suc m) le e v h = go (ℕ_discrete v m) (λ i. rose-zero t u m le (omega arith) v i)
  where
    go : Dec (v ≡ m) → (v < m → at u v ≡ at t v) → at u v ≡ at t v
    go (yes q) rec = rw q (omega (arith, le m))
    go (no q) rec = rec (omega arith)

-- ---- one table for another

-- the same entries rose in u and in w
rose-same : (t u w : List ℕ) (m : ℕ) → ((v : ℕ) → v < m → min 1 (at u v - at t v) ≡ min 1 (at w v - at t v)) → rose t u m ≡ rose t w m
rose-same t u w zero e = refl
rose-same t u w (suc m) e = ap (λ (x : ℕ). x + min 1 (at u m - at t m)) (rose-same t u w m (λ v h. e v (omega arith))) ∙ ap (λ (x : ℕ). rose t w m + x) (e m (omega arith))

pub rose_local : (t u w : List ℕ) (m : ℕ) → ((v : ℕ) → v < m → at u v ≡ at w v) → rose t u m ≡ rose t w m
rose_local t u w m e = rose-same t u w m (λ v h. ap (λ (x : ℕ). min 1 (x - at t v)) (e v h))

-- in two stages, of which at most one raises an entry
pub rose-join : (t u w : List ℕ) (m : ℕ) → ((v : ℕ) → (at u v ≡ at t v) ⊎ (at w v ≡ at u v)) → rose t w m ≡ rose t u m + rose u w m
rose-join t u w zero e = refl
rose-join t u w (suc m) e = go (e m) (rose-join t u w m e)
  where
    go : (at u m ≡ at t m) ⊎ (at w m ≡ at u m) → rose t w m ≡ rose t u m + rose u w m → rose t w (suc m) ≡ rose t u (suc m) + rose u w (suc m)
    go (inl q) rec = rw q (omega arith)
    go (inr q) rec = rw q (omega arith)

-- ---- one entry written

-- an entry raised for the first time is one more
pub rose-put : (t u : List ℕ) (m i e : ℕ) → i < m → i < length u → at u i ≡ at t i → at u i < e → rose t (set u i e) m ≡ rose t u m + 1
rose-put t u zero i e h l same up = absurd (omega arith)
rose-put t u (suc m) i e h l same up = go (ℕ_discrete m i) (λ j. rose-put t u m i e j l same up)
  where
    go : Dec (m ≡ i) → (i < m → rose t (set u i e) m ≡ rose t u m + 1) → rose t (set u i e) (suc m) ≡ rose t u (suc m) + 1
    go (yes q) rec =
        let below : rose t (set u i e) i ≡ rose t u i = rose_local t (set u i e) u i (λ v j. get_or-set_other u i v e 0 (λ d. omega arith)) in
        rw q (omega (arith, get_or-set_same u i e 0 l))
    go (no q) rec = rw (get_or-set_other u i m e 0 q) (omega (arith, rec (omega arith)))

-- one raised before is counted once
pub rose-again : (t u : List ℕ) (m i e : ℕ) → i < length u → at t i < at u i → at u i < e → rose t (set u i e) m ≡ rose t u m
rose-again t u m i e l risen up = rose-same t (set u i e) u m (λ v h. go v (ℕ_discrete v i))
  where
    go : (v : ℕ) → Dec (v ≡ i) → min 1 (at (set u i e) v - at t v) ≡ min 1 (at u v - at t v)
    go v (yes q) = rw q (omega (arith, get_or-set_same u i e 0 l))
    go v (no q) = ap (λ (x : ℕ). min 1 (x - at t v)) (get_or-set_other u i v e 0 q)
