-- A won position is never lifted to T, in whatever order, if T is more than the number of counting positions.
use mathlib.Core.Path.{◌≡◌, refl, ap}
use mathlib.Core.Logic.{◌≢◌, ◌⊎◌, inl, inr}
use mathlib.Core.List.{List, [], ◌∷◌, Memᴰ}
use Prim.Native.Nat.{ℕ, zero, suc, ◌+◌, ◌≤◌, ◌<◌}
use native.Mathlib.Omega.{arith}
use native.Mathlib.Decide.{ℕ_discrete}
use Rattle.games.specs.Game.{Kind, low, high, counting, resetting, idle, lost, Game, Inward, ask, at, lowest, highest}
use Rattle.games.specs.Lift.{cleared, lifts}
use Rattle.games.specs.Play.{is_counting, is_resetting, Live, Step, Walk, stop, more, counts, resets, Choice, Wins, Won, count, counting_in}
use Rattle.games.proofs.Asked.{Full, full-cases, High, highest_in, lowest_le}
use Rattle.games.proofs.Count.{count_mono}
use Rattle.games.proofs.Lift.{Closed, from-cleared}

-- ---- p with v struck out

struck_if : (p : ℕ → ℕ) (v u : ℕ) → Dec (u ≡ v) → ℕ
struck_if p v u (yes e) = 0
struck_if p v u (no e) = p u

strike : (p : ℕ → ℕ) (v u : ℕ) → ℕ
strike p v u = struck_if p v u (ℕ_discrete u v)

abbrev Struck : (p : ℕ → ℕ) (v u x : ℕ) → Type 0
Struck p v u x = ((u ≡ v) × (x ≡ 0)) ⊎ ((u ≢ v) × (x ≡ p u))

strike_cases : (p : ℕ → ℕ) (v u : ℕ) → Struck p v u (strike p v u)
unfolding strike struck_if
strike_cases p v u = go (ℕ_discrete u v)
  where
    go : (d : Dec (u ≡ v)) → Struck p v u (struck_if p v u d)
    go (yes e) = inl (e, refl)
    go (no e) = inr (e, refl)

strike_le : (p : ℕ → ℕ) (v u : ℕ) → strike p v u ≤ p u
strike_le p v u = go (strike_cases p v u)
  where
    go : Struck p v u (strike p v u) → strike p v u ≤ p u
    go (inl e) = omega arith
    go (inr e) = omega arith

count_strike : (p : ℕ → ℕ) (v n : ℕ) → v < n → count (strike p v) n + p v ≤ count p n
count_strike p v zero h = omega arith
count_strike p v (suc n) h = go (strike_cases p v n) (λ i. count_strike p v n i)
  where
    go : Struck p v n (strike p v n) → (v < n → count (strike p v) n + p v ≤ count p n) → strike p v n + count (strike p v) n + p v ≤ p n + count p n
    go (inl e) rec = omega (arith, e.1, ap p e.0, count_mono (strike p v) p n (λ u l. strike_le p v u))
    go (inr e) rec = omega (arith, e.1, rec (omega arith))

-- ---- what stands behind an entry n at v against the choice σ: a play that shows n counting positions before a reset, or a loss

data Run (g : Game) (σ : ℕ → ℕ) : ℕ → ℕ → Type 0 where
  here : {v n : ℕ} → n ≤ is_counting (g.kind v) → Run g σ v n
  dead : {v n : ℕ} → g.kind v ≡ low → g.next v ≡ [] → Run g σ v n
  gone : {v n : ℕ} → g.kind v ≡ lost → Run g σ v n
  over : {v w n m : ℕ} → is_resetting (g.kind v) ≡ 0 → Step g σ v w → Run g σ w m → n ≤ is_counting (g.kind v) + m → Run g σ v n
  past : {v w n m : ℕ} → Step g σ v w → Run g σ w m → g.T ≤ m → Run g σ v n

-- the constructors as functions: there omega sees the goal
run-here : {g : Game} {σ : ℕ → ℕ} {v n : ℕ} → n ≤ is_counting (g.kind v) → Run g σ v n
run-here h = here h

run-over : {g : Game} {σ : ℕ → ℕ} {v w n m : ℕ} → is_resetting (g.kind v) ≡ 0 → Step g σ v w → Run g σ w m → n ≤ is_counting (g.kind v) + m → Run g σ v n
run-over e s r h = over e s r h

run_past : {g : Game} {σ : ℕ → ℕ} {v w n m : ℕ} → Step g σ v w → Run g σ w m → g.T ≤ m → Run g σ v n
run_past s r h = past s r h

-- two kinds that differ are not equal, of which `cc` makes 0 ≡ 1
pub apart : {A : Type 0} → ◌≡◌ {A = ℕ} 0 1 → A
apart e = absurd (omega arith)

step-to : {g : Game} {σ : ℕ → ℕ} {v w : ℕ} → g.kind v ≢ low → Live g v → Memᴰ w (g.next v) → Step g σ v w
step-to a b m = record { edge = m; chosen = λ q. absurd (a q); live = b }

-- whatever a position asks has such a play behind it, if the entries one step on have
module _ (g : Game) (σ : ℕ → ℕ) (ch : Choice g σ) (f : ℕ → ℕ) (h : (w : ℕ) → Run g σ w (f w)) (v : ℕ) (inside : v < g.P) where
  run-low : g.kind v ≡ low → (ws : List ℕ) → g.next v ≡ ws → Run g σ v (lowest g.T f ws)
  run-low e [] p = dead e p
  run-low e (w ∷ ws) p =
      let m : Memᴰ (σ v) (g.next v) = ch v inside e (λ q. apart (cc)) in
      run-over (ap is_resetting e) (record { edge = m; chosen = λ q. refl; live = λ q. apart (cc) }) (h (σ v)) (omega (arith, lowest_le g.T f (rw p at m)))

  run-high : (n : ℕ) → g.kind v ≢ low → Live g v → is_resetting (g.kind v) ≡ 0 → n ≤ is_counting (g.kind v) + highest f (g.next v)
      → High f (g.next v) (highest f (g.next v)) → Run g σ v n
  run-high n a b c d (inl z) = run-here (omega arith)
  run-high n a b c d (inr (w, m, q)) = run-over c (step-to a b m) (h w) (omega arith)

  run-full : (n : ℕ) → g.kind v ≢ low → Live g v → Full g.T (highest f (g.next v)) n → High f (g.next v) (highest f (g.next v)) → Run g σ v n
  run-full n a b (inr c) d = run-here (omega arith)
  run-full n a b (inl c) (inl z) = run-here (omega arith)
  run-full n a b (inl c) (inr (w, m, q)) = run_past (step-to a b m) (h w) (omega arith)

  run-ask : (k : Kind) → g.kind v ≡ k → Run g σ v (ask k g.T f (g.next v))
  unfolding ask
  run-ask low e = run-low e (g.next v) refl
  run-ask high e = run-high _ (λ q. apart (cc)) (λ q. apart (cc)) (ap is_resetting e) (omega arith) (highest_in f (g.next v))
  run-ask counting e = run-high _ (λ q. apart (cc)) (λ q. apart (cc)) (ap is_resetting e) (omega (arith, ap is_counting e)) (highest_in f (g.next v))
  run-ask resetting e = run-full _ (λ q. apart (cc)) (λ q. apart (cc)) (full-cases g.T (highest f (g.next v))) (highest_in f (g.next v))
  run-ask idle e = run-here (omega arith)
  run-ask lost e = gone e

run_closed : (g : Game) (σ : ℕ → ℕ) → Choice g σ → Closed g (Run g σ)
run_closed g σ ch f h v i = run-ask g σ ch f h v i (g.kind v) refl

-- ---- and where σ wins, such a play shows no more counting positions than there are

counting_or : (k : Kind) → (is_counting k ≡ 0) ⊎ (k ≡ counting)
counting_or low = inl refl
counting_or high = inl refl
counting_or counting = inr refl
counting_or resetting = inl refl
counting_or idle = inl refl
counting_or lost = inl refl

module _ (g : Game) (ins : Inward g) (σ : ℕ → ℕ) (v₀ : ℕ) (win : Wins g σ v₀) (enough : counting_in g < g.T) where
  -- a walk with a counting position that has left no resetting one
  abbrev Unrelieved : ℕ → ℕ → Type 0
  Unrelieved u v = (c : Walk g σ u v) × (0 < counts c) × (resets c ≡ 0)

  -- each counting position that is struck out of p lies behind v
  abbrev Behind : (ℕ → ℕ) → ℕ → Type 0
  Behind p v = (u : ℕ) → g.kind u ≡ counting → p u ≡ 0 → Unrelieved u v

  -- a counting position on the walk is not struck out yet: otherwise it would close a loop that σ does not allow
  fresh : {v : ℕ} (p : ℕ → ℕ) → Walk g σ v₀ v → Behind p v → is_counting (g.kind v) ≤ p v
  fresh {v} p c b = go (counting_or (g.kind v)) (ℕ_discrete (p v) 0)
    where
      go : (is_counting (g.kind v) ≡ 0) ⊎ (g.kind v ≡ counting) → Dec (p v ≡ 0) → is_counting (g.kind v) ≤ p v
      go (inl e) d = omega arith
      go (inr e) (no d) = omega (arith, ap is_counting e)
      go (inr e) (yes d) = let (l, x, y) = b v e d in absurd (omega (arith, win.fair v c l x))

  behind : {v w : ℕ} (p : ℕ → ℕ) → Behind p v → is_resetting (g.kind v) ≡ 0 → Step g σ v w → Behind (strike p v) w
  behind {v} {w} p b z s u e o = go (strike_cases p v u)
    where
      go : Struck p v u (strike p v u) → Unrelieved u w
      go (inl q) = (more (stop q.0) s, omega (arith, ap (λ x. is_counting (g.kind x)) q.0, ap is_counting e), omega arith)
      go (inr q) = let (l, x, y) = b u e (omega arith) in (more l s, omega arith, omega arith)

  none-behind : (v : ℕ) → Behind (λ u. is_counting (g.kind u)) v
  none-behind v u e z = absurd (omega (arith, ap is_counting e))

  bounded : {v n : ℕ} → Run g σ v n → v < g.P → Walk g σ v₀ v → (p : ℕ → ℕ) → Behind p v → n ≤ count p g.P
  bounded (here {v = v} h) i c p b = omega (arith, fresh p c b, count_strike p v g.P i)
  bounded (dead {v = v} e q) i c p b = absurd (win.alive v c e q)
  bounded (gone {v = v} e) i c p b = absurd (win.kept v c e)
  bounded (over {v = v} {w = w} z s r h) i c p b =
      omega (arith, fresh p c b, count_strike p v g.P i, bounded r (ins v i w s.edge) (more c s) (strike p v) (behind p b z s))
  bounded (past {v = v} {w = w} s r h) i c p b =
      absurd (omega (arith, bounded r (ins v i w s.edge) (more c s) (λ u. is_counting (g.kind u)) (none-behind w)))

pub won_below : (g : Game) → Inward g → counting_in g < g.T → (v : ℕ) → v < g.P → Won g v → (vs : List ℕ) → at (lifts g (cleared g) vs) v < g.T
won_below g ins enough v i (σ, win) vs =
    let r : Run g σ v (at (lifts g (cleared g) vs) v) = from-cleared (Run g σ) g (run_closed g σ win.choice) (λ w. run-here (omega arith)) vs v in
    omega (arith, bounded g ins σ v win enough r i (stop refl) (λ u. is_counting (g.kind u)) (none-behind g ins σ v win enough v))
