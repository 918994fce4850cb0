-- One lift, and any list of lifts: what holds of every entry that lifting ever writes.
use mathlib.Core.Path.{◌≡◌, refl, sym, ap, ◌∙◌, subst}
use mathlib.Core.Logic.{◌≢◌}
use mathlib.Core.List.{List, [], ◌∷◌, ◌++◌}
use Prim.Native.Nat.{ℕ, zero, suc, ◌≤◌, ◌<◌, max}
use native.Mathlib.Nat.{le_trans}
use native.Mathlib.Omega.{arith}
use native.Mathlib.Decide.{dec_le, dec_lt, ℕ_discrete}
use lib.ListN.{length, get_or, set, replicate, length-set, length-replicate}
use lib.Seq.{set_out, get_or-set_same, get_or-set_other, set-get_or}
use Rattle.games.specs.Game.{Game, asked, at}
use Rattle.games.specs.Lift.{cleared, lift, lifts, Rest, AtRest}
use Rattle.games.proofs.Asked.{asked_mono, asked-cap}

-- ---- one lift

pub lift-entries : (g : Game) (t : List ℕ) (v : ℕ) → length (lift g t v) ≡ length t
unfolding lift
lift-entries g t v = length-set t v _

pub lift-other : (g : Game) (t : List ℕ) (v w : ℕ) → w ≢ v → at (lift g t v) w ≡ at t w
unfolding lift
lift-other g t v w ne = get_or-set_other t v w _ 0 ne

pub lift-same : (g : Game) (t : List ℕ) (v : ℕ) → v < length t → at (lift g t v) v ≡ max (at t v) (asked g (at t) v)
unfolding lift
lift-same g t v h = get_or-set_same t v _ 0 h

pub lift-out : (g : Game) (t : List ℕ) (v : ℕ) → length t ≤ v → lift g t v ≡ t
unfolding lift
lift-out g t v h = set_out t v _ h

-- a position that has all it asks for is not changed
pub lift_still : (g : Game) (t : List ℕ) (v : ℕ) → asked g (at t) v ≤ at t v → lift g t v ≡ t
unfolding lift
lift_still g t v h =
    let e : max (at t v) (asked g (at t) v) ≡ at t v = omega arith in
    ap (set t v) e ∙ set-get_or t v 0

-- the law of a lift: what holds of the old entries and of what v asks holds of the new entries
lift-all : (R : ℕ → ℕ → Type 0) (g : Game) (t : List ℕ) (v : ℕ) → ((w : ℕ) → R w (at t w)) → (v < length t → R v (asked g (at t) v))
    → (w : ℕ) → R w (at (lift g t v) w)
lift-all R g t v old new w = go (ℕ_discrete w v) (dec_lt v (length t)) (dec_le (asked g (at t) v) (at t v))
  where
    go : Dec (w ≡ v) → Dec (v < length t) → Dec (asked g (at t) v ≤ at t v) → R w (at (lift g t v) w)
    go (no ne) i d = rw (lift-other g t v w ne) (old w)
    go (yes e) (no o) d = rw (lift-out g t v (omega arith)) (old w)
    go (yes e) (yes i) (yes d) = rw (lift_still g t v d) (old w)
    go (yes e) (yes i) (no d) =
        let m : at (lift g t v) v ≡ asked g (at t) v = lift-same g t v i ∙ omega arith in
        subst (λ (x : ℕ). R x (at (lift g t v) x)) (sym e) (subst (R v) (sym m) (new i))

-- ---- any list of lifts

-- R, between a position and an entry, passes on to what any position asks
abbrev pub Closed : Game → (R : ℕ → ℕ → Type 0) → Type 0
Closed g R = (f : ℕ → ℕ) → ((w : ℕ) → R w (f w)) → (v : ℕ) → v < g.P → R v (asked g f v)

pub lifts-entries : (g : Game) (vs t : List ℕ) → length (lifts g t vs) ≡ length t
lifts-entries g [] t = refl
lifts-entries g (v ∷ vs) t = lifts-entries g vs (lift g t v) ∙ lift-entries g t v

pub lifts_append : (g : Game) (us vs t : List ℕ) → lifts g t (us ++ vs) ≡ lifts g (lifts g t us) vs
lifts_append g [] vs t = refl
lifts_append g (u ∷ us) vs t = lifts_append g us vs (lift g t u)

lifts-all : (R : ℕ → ℕ → Type 0) (g : Game) → Closed g R → (vs t : List ℕ) → length t ≡ g.P
    → ((w : ℕ) → R w (at t w)) → (w : ℕ) → R w (at (lifts g t vs) w)
lifts-all R g c [] t l h = h
lifts-all R g c (v ∷ vs) t l h =
    lifts-all R g c vs (lift g t v) (lift-entries g t v ∙ l) (lift-all R g t v h (λ i. c (at t) h v (omega arith)))

-- a table at rest is not changed
pub rest_still : (g : Game) (vs t : List ℕ) → AtRest g t → lifts g t vs ≡ t
rest_still g [] t r = refl
rest_still g (v ∷ vs) t r = rw (go (dec_lt v (length t))) (rest_still g vs t r)
  where
    go : Dec (v < length t) → lift g t v ≡ t
    go (yes h) = lift_still g t v (r.rest v (omega (arith, r.entries)))
    go (no h) = lift-out g t v (omega arith)

-- ---- from the cleared table

pub cleared_at : (n w : ℕ) → ◌≡◌ {A = ℕ} (get_or (replicate n 0) w 0) 0
cleared_at zero w = refl
cleared_at (suc n) zero = refl
cleared_at (suc n) (suc w) = cleared_at n w

pub cleared-entries : (g : Game) → length (cleared g) ≡ g.P
cleared-entries g = length-replicate g.P 0

pub cleared-capped : (g : Game) (v : ℕ) → at (cleared g) v ≤ g.T
cleared-capped g v = rw cleared_at (omega arith)

-- the law of lifting: what is closed under asking, and holds of 0, holds of every entry ever written
pub from-cleared : (R : ℕ → ℕ → Type 0) (g : Game) → Closed g R → ((w : ℕ) → R w 0) → (vs : List ℕ) (w : ℕ) → R w (at (lifts g (cleared g) vs) w)
from-cleared R g c z vs w = lifts-all R g c vs (cleared g) (cleared-entries g) (λ w. rw cleared_at (z w)) w

pub lifts-capped : (g : Game) (vs t : List ℕ) → length t ≡ g.P → ((v : ℕ) → at t v ≤ g.T) → (v : ℕ) → at (lifts g t vs) v ≤ g.T
lifts-capped g vs t l c = lifts-all (λ w n. n ≤ g.T) g (λ f h v i. asked-cap g f h v) vs t l c

-- no entry is ever above T, whatever was lifted
pub never-above-T : (g : Game) (vs : List ℕ) (v : ℕ) → at (lifts g (cleared g) vs) v ≤ g.T
never-above-T g vs v = lifts-capped g vs (cleared g) (cleared-entries g) (cleared-capped g) v

-- no entry passes that of any function at rest, and so of any table at rest
pub below_rest : (g : Game) (vs : List ℕ) (h : ℕ → ℕ) → Rest g h → (w : ℕ) → at (lifts g (cleared g) vs) w ≤ h w
below_rest g vs h r w = from-cleared (λ w n. n ≤ h w) g closed (λ w. omega arith) vs w
  where
    closed : Closed g (λ w n. n ≤ h w)
    closed f le v i = le_trans (asked_mono g f h le v) (r v i)

pub never-past : (g : Game) (vs u : List ℕ) → AtRest g u → (w : ℕ) → at (lifts g (cleared g) vs) w ≤ at u w
never-past g vs u s w = below_rest g vs (at u) s.rest w
