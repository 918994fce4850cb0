-- Half-rounds: where no step stays within a stretch, lifting its positions one by one is lifting them all at once, and a sweep is two such halves.
use mathlib.Core.Path.{◌≡◌, refl, sym, ap, ◌∙◌}
use mathlib.Core.Logic.{◌⊎◌, inl, inr}
use mathlib.Core.List.{List, ◌++◌, Memᴰ}
use Prim.Native.Nat.{ℕ, zero, suc, ◌+◌, ◌-◌, ◌≤◌, ◌<◌, max}
use native.Mathlib.Omega.{arith}
use native.Mathlib.Decide.{ℕ_discrete, dec_le, dec_lt}
use lib.ListN.{length}
use lib.Seq.{ext_get_or}
use Rattle.games.specs.Game.{Game, asked, at}
use Rattle.games.specs.Lift.{lift, lifts, rise, raises}
use Rattle.games.specs.Settle.{ascending, sweep}
use Rattle.games.specs.Half.{rose, Apart, Halved}
use Rattle.games.proofs.Asked.{asked-cap, asked_local}
use Rattle.games.proofs.Lift.{lift-entries, lift-same, lift-other, lifts_append}
use Rattle.games.proofs.Raises.{raises_append}
use Rattle.games.proofs.Sweeping.{lift-rose, lift_stayed, ascending_append}
use Rattle.games.proofs.Rose.{rose-none, rose-join, rose-put}

-- ---- one half

abbrev Beside : (lo hi v : ℕ) → Type 0
Beside lo hi v = (v < lo) ⊎ (hi ≤ v)

-- a position is beside the stretch or in it
beside_or_in : (lo hi v : ℕ) → Beside lo hi v ⊎ ((lo ≤ v) × (v < hi))
beside_or_in lo hi v = go (dec_lt v lo) (dec_le hi v)
  where
    go : Dec (v < lo) → Dec (hi ≤ v) → Beside lo hi v ⊎ ((lo ≤ v) × (v < hi))
    go (yes l) h = inl (inl l)
    go (no l) (yes h) = inl (inr h)
    go (no l) (no h) = inr (omega arith, omega arith)

-- a half from bounds on its entries
pub half_from : (g : Game) (lo hi : ℕ) (t u : List ℕ) → length u ≡ length t → ((v : ℕ) → (v < lo) ⊎ (hi ≤ v) → at u v ≡ at t v)
    → ((v : ℕ) → lo ≤ v → v < hi → (at t v ≤ at u v) × (at u v ≤ max (at t v) (asked g (at t) v)) × (asked g (at t) v ≤ at u v)) → Halved g lo hi t u
half_from g lo hi t u n out bounds = record {
  entries = n;
  inside = λ v l h. let b = bounds v l h in omega (arith, b.0, b.1, b.2);
  outside = out;
}

module _ {g : Game} {lo hi : ℕ} {t u : List ℕ} where
  pub half_grown : Halved g lo hi t u → (v : ℕ) → at t v ≤ at u v
  half_grown d v = go (beside_or_in lo hi v)
    where
      go : Beside lo hi v ⊎ ((lo ≤ v) × (v < hi)) → at t v ≤ at u v
      go (inl o) = omega (arith, d.outside v o)
      go (inr i) = omega (arith, d.inside v i.0 i.1)

  pub half_capped : Halved g lo hi t u → length t ≡ g.P → ((v : ℕ) → at t v ≤ g.T) → hi ≤ g.P → (v : ℕ) → at u v ≤ g.T
  half_capped d n c h v = go (beside_or_in lo hi v)
    where
      go : Beside lo hi v ⊎ ((lo ≤ v) × (v < hi)) → at u v ≤ g.T
      go (inl o) = omega (arith, d.outside v o, c v)
      go (inr i) = omega (arith, d.inside v i.0 i.1, c v, asked-cap g (at t) c v)

  -- the positions just lifted are at rest
  pub half_rest : Apart g lo hi → Halved g lo hi t u → (v : ℕ) → lo ≤ v → v < hi → asked g (at u) v ≤ at u v
  half_rest a d v l h = omega (arith, asked_local g (at u) (at t) v (λ w m. go w m (beside_or_in lo hi w)), d.inside v l h)
    where
      go : (w : ℕ) → Memᴰ w (g.next v) → Beside lo hi w ⊎ ((lo ≤ w) × (w < hi)) → at u w ≡ at t w
      go w m (inl o) = d.outside w o
      go w m (inr i) = absurd (a v w l h m i.0 i.1)

-- ---- position by position

-- after the lift of its first position the rest of a half is left
half_step : (g : Game) (lo hi : ℕ) (t u : List ℕ) → lo < hi → hi ≤ length t → Apart g lo hi → Halved g lo hi t u → Halved g (suc lo) hi (lift g t lo) u
half_step g lo hi t u l h a d = record {
  entries = d.entries ∙ sym (lift-entries g t lo);
  inside = λ v i j. omega (arith, d.inside v (omega arith) j, lift-other g t lo v (λ e. omega arith), asks v i j);
  outside = λ v o. beside v o (ℕ_discrete v lo);
}
  where
    asks : (v : ℕ) → lo < v → v < hi → asked g (at (lift g t lo)) v ≡ asked g (at t) v
    asks v i j = asked_local g (at (lift g t lo)) (at t) v (λ w m. lift-other g t lo w (λ e. a v w (omega arith) j m (omega arith) (omega arith)))

    narrow : (v : ℕ) → Beside (suc lo) hi v → (v ≡ lo → ⊥) → Beside lo hi v
    narrow v (inl i) n = inl (omega arith)
    narrow v (inr i) n = inr i

    beside : (v : ℕ) → Beside (suc lo) hi v → Dec (v ≡ lo) → at u v ≡ at (lift g t lo) v
    beside v o (yes e) = rw e (d.inside lo (omega arith) l ∙ sym (lift-same g t lo (omega arith)))
    beside v o (no n) = d.outside v (narrow v o n) ∙ sym (lift-other g t lo v n)

-- a lift raises one entry or none
rose-lift : (g : Game) (t : List ℕ) (v m : ℕ) → v < m → v < length t → rise g t v ≡ rose t (lift g t v) m
rose-lift g t v m h l = go (dec_lt (at t v) (asked g (at t) v))
  where
    go : Dec (at t v < asked g (at t) v) → rise g t v ≡ rose t (lift g t v) m
    go (yes p) = let (e, s) = lift-rose g t v (asked g (at t) v) refl l p in sym e ∙ rw (← s) (omega (arith, rose-put t t m v (asked g (at t) v) h l refl p, rose-none t m))
    go (no p) = let (e, s) = lift_stayed g t v (asked g (at t) v) refl (omega arith) in sym e ∙ rw (← s) (sym (rose-none t m))

-- lifting the positions of the stretch in ascending order makes the half, with as many raises as entries that rose
half_lifts : (g : Game) (m c lo hi : ℕ) (t u : List ℕ) → lo + c ≡ hi → hi ≤ m → hi ≤ length t → Apart g lo hi → Halved g lo hi t u
    → (lifts g t (ascending lo c) ≡ u) × (raises g t (ascending lo c) ≡ rose t u m)
half_lifts g m zero lo hi t u e h l a d = (same, rw (← same) (sym (rose-none t m)))
  where
    beside : (v : ℕ) → Dec (v < lo) → at t v ≡ at u v
    beside v (yes p) = sym (d.outside v (inl p))
    beside v (no p) = sym (d.outside v (inr (omega arith)))

    same : t ≡ u
    same = ext_get_or 0 t u (sym d.entries) (λ v i. beside v (dec_lt v lo))
half_lifts g m (suc c) lo hi t u e h l a d =
    let left : Halved g (suc lo) hi (lift g t lo) u = half_step g lo hi t u (omega arith) l a d in
    let rec = half_lifts g m c (suc lo) hi (lift g t lo) u (omega arith) h (rw (lift-entries g t lo) l) (λ v w i j k p q. a v w (omega arith) j k (omega arith) q) left in
    (rec.0, omega (arith, rec.1, rose-lift g t lo m (omega arith) (omega arith), rose-join t (lift g t lo) u m (λ v. once left v (ℕ_discrete v lo))))
  where
    once : Halved g (suc lo) hi (lift g t lo) u → (v : ℕ) → Dec (v ≡ lo) → (at (lift g t lo) v ≡ at t v) ⊎ (at u v ≡ at (lift g t lo) v)
    once left v (yes p) = inr (left.outside v (inl (omega arith)))
    once left v (no p) = inl (lift-other g t lo v p)

-- ---- a sweep

-- A sweep of a game whose first s positions are Spoiler's is two half-rounds, and its raises are the entries that rose in each.
pub round : (g : Game) (s : ℕ) (t u w : List ℕ) → s ≤ g.P → length t ≡ g.P → Apart g 0 s → Apart g s g.P → Halved g 0 s t u → Halved g s g.P u w
    → (lifts g t (sweep g) ≡ w) × (raises g t (sweep g) ≡ rose t u g.P + rose u w g.P)
round g s t u w h n a b x y =
    let first = half_lifts g g.P s 0 s t u (omega arith) h (omega arith) a x in
    let second = half_lifts g g.P (g.P - s) s g.P u w (omega arith) (omega arith) (omega (arith, x.entries)) b y in (
      ap (lifts g t) halves ∙ lifts_append g spoilers duplicators t ∙ ap (λ (l : List ℕ). lifts g l duplicators) first.0 ∙ second.0,
      ap (raises g t) halves
          ∙ raises_append g spoilers duplicators t
          ∙ ap (λ (l : List ℕ). raises g t spoilers + raises g l duplicators) first.0
          ∙ omega (arith, first.1, second.1),
    )
  where
    spoilers : List ℕ
    spoilers = ascending 0 s

    duplicators : List ℕ
    duplicators = ascending s (g.P - s)

    halves : sweep g ≡ spoilers ++ duplicators
    halves =
        let all : g.P ≡ s + (g.P - s) = omega arith in
        let from : 0 + s ≡ s = omega arith in
        ap (ascending 0) all ∙ ascending_append 0 s (g.P - s) ∙ ap (λ (k : ℕ). spoilers ++ ascending k (g.P - s)) from
