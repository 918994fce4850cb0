-- What a loop that sweeps keeps: one position on, one sweep on, and the end.
use mathlib.Core.Path.{◌≡◌, refl, sym, ap, ◌∙◌}
use mathlib.Core.List.{List, [], ◌∷◌, ◌++◌}
use Prim.Native.Nat.{ℕ, zero, suc, ◌+◌, ◌-◌, ◌≤◌, ◌<◌}
use native.Mathlib.Nat.{add-zero, zero-add}
use native.Mathlib.Omega.{arith}
use native.Mathlib.Numerals.{add-one}
use lib.ListN.{length, set}
use Rattle.games.specs.Game.{Game, asked, at}
use Rattle.games.specs.Lift.{cleared, lift, lifts, rise, raises, bound}
use Rattle.games.specs.Settle.{ascending, sweep, after, sweeps, enough, settle}
use Rattle.games.proofs.Lift.{lift-same, lift_still, lifts-entries, lifts_append, lifts-capped, cleared-entries, cleared-capped, rest_still}
use Rattle.games.proofs.Raises.{unraised_rest, raises_append, total, total_lifts, total_most}
use Rattle.games.proofs.Settle.{sweep_covers, settle-raises}

-- ---- one lift, by the value a that the position asks for

module _ (g : Game) (t : List ℕ) (v a : ℕ) (e : a ≡ asked g (at t) v) where
  pub lift-rose : v < length t → at t v < a → (1 ≡ rise g t v) × (set t v a ≡ lift g t v)
  unfolding lift
  lift-rose i h = (omega (arith, lift-same g t v i), ap (set t v) (omega arith))

  pub lift_stayed : a ≤ at t v → (0 ≡ rise g t v) × (t ≡ lift g t v)
  lift_stayed h =
      let s : lift g t v ≡ t = lift_still g t v (omega arith) in
      (rw s (omega arith), sym s)

-- ---- one sweep, position by position

pub ascending_append : (v c d : ℕ) → ascending v (c + d) ≡ ascending v c ++ ascending (v + c) d
ascending_append v zero d = rw (zero-add d, add-zero v)
ascending_append v (suc c) d =
    let e : v + suc c ≡ suc v + c = omega arith in
    let f : suc c + d ≡ suc (c + d) = omega arith in
    rw (e, f) (ap (λ (z : List ℕ). v ∷ z) (ascending_append (suc v) c d))

ascending-more : (v c : ℕ) → ascending v (suc c) ≡ ascending v c ++ ((v + c) ∷ [])
ascending-more v c = ap (ascending v) (sym (add-one c)) ∙ ascending_append v c 1

module _ (g : Game) (t : List ℕ) (v : ℕ) where
  pub lifts-more : lifts g t (ascending 0 (suc v)) ≡ lift g (lifts g t (ascending 0 v)) v
  lifts-more = ap (lifts g t) (ascending-more 0 v) ∙ lifts_append g (ascending 0 v) ((0 + v) ∷ []) t ∙ ap (lift g (lifts g t (ascending 0 v))) (zero-add v)

  pub raises-more : raises g t (ascending 0 (suc v)) ≡ raises g t (ascending 0 v) + rise g (lifts g t (ascending 0 v)) v
  raises-more =
      ap (raises g t) (ascending-more 0 v)
      ∙ raises_append g (ascending 0 v) ((0 + v) ∷ []) t
      ∙ ap (λ (x : ℕ). raises g t (ascending 0 v) + x) (rw (zero-add v) (add-zero (rise g (lifts g t (ascending 0 v)) v)))

-- ---- sweep after sweep

-- whole sweeps with n raises have made t of the cleared table, and the defined settle goes on from there
pub record Sweeping (g : Game) (n : ℕ) (t : List ℕ) : Type 0 where
  pub left : ℕ
  pub entries : length t ≡ g.P
  pub capped : (v : ℕ) → at t v ≤ g.T
  pub enough : bound g ≤ total t + left
  pub table : (settle g).table ≡ (sweeps g left t).table
  pub raised : (settle g).raised ≡ n + (sweeps g left t).raised

pub sweeping_none : (g : Game) → Sweeping g 0 (cleared g)
sweeping_none g = record {
  left = enough g;
  entries = cleared-entries g;
  capped = cleared-capped g;
  enough = omega arith;
  table = refl;
  raised = sym (zero-add (settle g).raised);
}

module _ (g : Game) (n : ℕ) (t : List ℕ) (s : Sweeping g n t) where
  -- the sweep just made raised something
  pub sweeping_more : 0 < raises g t (sweep g) → Sweeping g (n + raises g t (sweep g)) (lifts g t (sweep g))
  sweeping_more h = go s.left (raises g t (sweep g)) refl s.enough s.table s.raised h
    where
      swept : List ℕ
      swept = lifts g t (sweep g)

      go : (c k : ℕ) → raises g t (sweep g) ≡ k → bound g ≤ total t + c → (settle g).table ≡ (sweeps g c t).table → (settle g).raised ≡ n + (sweeps g c t).raised → 0 < k → Sweeping g (n + k) swept
      go zero k e m x y h = absurd (omega (arith, total_most g (sweep g) t s.entries s.capped))
      go (suc c) zero e m x y h = absurd (omega arith)
      go (suc c) (suc k) e m x y h = record {
        left = c;
        entries = lifts-entries g (sweep g) t ∙ s.entries;
        capped = lifts-capped g (sweep g) t s.entries s.capped;
        enough = omega (arith, total_lifts g (sweep g) t);
        table = x ∙ ap (λ (z : ℕ). (after z t (λ _. sweeps g c swept)).table) e;
        raised = y ∙ ap (λ (z : ℕ). n + (after z t (λ _. sweeps g c swept)).raised) e ∙ omega arith;
      }

  -- it raised nothing: t is the settled table, and n the number of raises
  pub sweeping_done : raises g t (sweep g) ≡ 0 → (n ≡ (settle g).raised) × (lifts g t (sweep g) ≡ (settle g).table)
  sweeping_done e = go s.left s.table s.raised
    where
      still : lifts g t (sweep g) ≡ t
      still = rest_still g (sweep g) t (unraised_rest g t (sweep g) s.entries s.capped (sweep_covers g) e)

      go : (c : ℕ) → (settle g).table ≡ (sweeps g c t).table → (settle g).raised ≡ n + (sweeps g c t).raised → (n ≡ (settle g).raised) × (lifts g t (sweep g) ≡ (settle g).table)
      go zero x y = (sym (y ∙ add-zero n), still ∙ sym x)
      go (suc c) x y = (
        sym (y ∙ ap (λ (z : ℕ). n + (after z t (λ _. sweeps g c (lifts g t (sweep g)))).raised) e ∙ add-zero n),
        still ∙ sym (x ∙ ap (λ (z : ℕ). (after z t (λ _. sweeps g c (lifts g t (sweep g)))).table) e),
      )

  -- the raises so far are among those of the settle, and the total grows with each sweep that raises
  pub sweeping_raised : n ≤ bound g
  sweeping_raised = omega (arith, s.raised, settle-raises g)

  pub sweeping_less : 0 < raises g t (sweep g) → bound g - total (lifts g t (sweep g)) < bound g - total t
  sweeping_less h = omega (arith, total_lifts g (sweep g) t, total_most g (sweep g) t s.entries s.capped)
