-- Least replies on a table at rest: they win from every entry below T, and what the number of an entry means in play.
use mathlib.Core.Path.{◌≡◌, refl}
use mathlib.Core.Logic.{◌≢◌, ◌⊎◌, inl, inr}
use mathlib.Core.Bool.{Bool, true, false}
use mathlib.Core.List.Memᴰ
use mathlib.Core.List.{List, [], ◌∷◌, Memᴰ}
use Prim.Native.Nat.{ℕ, ◌+◌, ◌≤◌, ◌<◌}
use native.Mathlib.Nat.{le_refl, le_trans}
use native.Mathlib.Omega.{arith}
use native.Mathlib.Decide.{dec_lt}
use lib.Dec.{leb, leb→le, nleb→lt}
use borrow.Author.Tests.{le-leb, lt-leb}
use Rattle.games.specs.Game.{Kind, low, high, counting, resetting, idle, lost, Game, Inward, ask, asked, at, lowest, highest, full}
use Rattle.games.specs.Lift.{AtRest}
use Rattle.games.specs.Play.{is_counting, is_resetting, Step, Walk, stop, more, counts, resets, Wins, Won}
use Rattle.games.specs.Reply.{LeastReplies, better, first_least, pick}
use Rattle.games.proofs.Asked.{Full, full-cases, lowest_ge, highest_ge}

-- ---- the first of the least

first_least_in : (f : ℕ → ℕ) (v : ℕ) (vs : List ℕ) → Memᴰ (first_least f v vs) (v ∷ vs)
unfolding first_least
first_least_in f v [] = Memᴰ.head refl
first_least_in f v (w ∷ ws) = go (leb (f v) (f (first_least f w ws))) (first_least_in f w ws)
  where
    go : (d : Bool) → Memᴰ (first_least f w ws) (w ∷ ws) → Memᴰ (better d v (first_least f w ws)) (v ∷ (w ∷ ws))
    go true m = Memᴰ.head refl
    go false m = Memᴰ.tail m

first_least_le : (f : ℕ → ℕ) (v : ℕ) (vs : List ℕ) {u : ℕ} → Memᴰ u (v ∷ vs) → f (first_least f v vs) ≤ f u
unfolding first_least
first_least_le f v [] {u} m = go (Memᴰ.cases_cons m)
  where
    go : (u ≡ v) ⊎ Memᴰ u [] → f v ≤ f u
    go (inl e) = rw e (le_refl (f v))
    go (inr n) = absurd (Memᴰ.not-nil n)
first_least_le f v (w ∷ ws) {u} m = go (leb (f v) (f (first_least f w ws))) refl (Memᴰ.cases_cons m) (λ n. first_least_le f w ws n)
  where
    go : (d : Bool) → leb (f v) (f (first_least f w ws)) ≡ d → (u ≡ v) ⊎ Memᴰ u (w ∷ ws)
        → (Memᴰ u (w ∷ ws) → f (first_least f w ws) ≤ f u) → f (better d v (first_least f w ws)) ≤ f u
    go true e (inl p) rec = rw p (le_refl (f v))
    go true e (inr n) rec = omega (arith, leb→le (f v) (f (first_least f w ws)) (rw e tt), rec n)
    go false e (inl p) rec = rw p (omega (arith, nleb→lt (f v) (f (first_least f w ws)) (rw e tt)))
    go false e (inr n) rec = rec n

pub pick_in : (f : ℕ → ℕ) (vs : List ℕ) → vs ≢ [] → Memᴰ (pick f vs) vs
pick_in f [] n = absurd (n refl)
pick_in f (v ∷ vs) n = first_least_in f v vs

pub pick_le : (f : ℕ → ℕ) (vs : List ℕ) {u : ℕ} → Memᴰ u vs → f (pick f vs) ≤ f u
pick_le f [] m = absurd (Memᴰ.not-nil m)
pick_le f (v ∷ vs) m = first_least_le f v vs m

-- The first of the least as a scan finds it: a position with a smaller entry takes the place of the best so far,
pub first_least_later : (f : ℕ → ℕ) (v w : ℕ) (ws : List ℕ) → f w < f v → first_least f v (w ∷ ws) ≡ first_least f w ws
unfolding first_least
first_least_later f v w ws l = simp (lt-leb (f v) (f (first_least f w ws)) (omega (arith, pick_le f (w ∷ ws) (Memᴰ.head refl))))

-- and no other does.
pub first_least_stays : (f : ℕ → ℕ) (v w : ℕ) (ws : List ℕ) → f v ≤ f w → first_least f v (w ∷ ws) ≡ first_least f v ws
unfolding first_least
first_least_stays f v w [] l = simp (le-leb (f v) (f w) l)
first_least_stays f v w (x ∷ xs) l = go (leb (f w) (f (first_least f x xs))) refl
  where
    go : (d : Bool) → leb (f w) (f (first_least f x xs)) ≡ d
        → better (leb (f v) (f (better d w (first_least f x xs)))) v (better d w (first_least f x xs)) ≡ better (leb (f v) (f (first_least f x xs))) v (first_least f x xs)
    go true e = simp (le-leb (f v) (f w) l, le-leb (f v) (f (first_least f x xs)) (le_trans l (leb→le (f w) (f (first_least f x xs)) (rw e tt))))
    go false e = refl

-- there are least replies to every table
pub picks : (g : Game) (t : List ℕ) → LeastReplies g t (λ v. pick (at t) (g.next v))
picks g t = record { choice = λ v i e n. pick_in (at t) (g.next v) n; least = λ v i e w m. pick_le (at t) (g.next v) m }

-- ---- one step, by kind

-- from an entry m below T that has all it asks for: one step on the entry is below T, and until a reset each counting position takes one away
step_down : (k : Kind) (T : ℕ) (f : ℕ → ℕ) (ws : List ℕ) (m w : ℕ) → ask k T f ws ≤ m → m < T → Memᴰ w ws
    → (k ≡ low → f w ≤ lowest T f ws) → k ≢ idle → (f w < T) × (is_resetting k ≡ 0 → is_counting k + f w ≤ m)
unfolding ask
step_down low T f ws m w a h i l n = omega (arith, l refl)
step_down high T f ws m w a h i l n = omega (arith, highest_ge f i)
step_down counting T f ws m w a h i l n = omega (arith, highest_ge f i)
step_down resetting T f ws m w a h i l n = go (full-cases T (highest f ws))
  where
    go : Full T (highest f ws) (full T (highest f ws)) → (f w < T) × (◌≡◌ {A = ℕ} 1 0 → 0 + f w ≤ m)
    go (inl p) = absurd (omega arith)
    go (inr p) = omega (arith, highest_ge f i)
step_down idle T f ws m w a h i l n = absurd (n refl)
step_down lost T f ws m w a h i l n = absurd (omega arith)

-- what a position that asks for less than T cannot be
asks_alive : (k : Kind) (T : ℕ) (f : ℕ → ℕ) (ws : List ℕ) → ask k T f ws < T → k ≡ low → ws ≢ []
unfolding ask lowest
asks_alive k T f ws h e p = let h' = rw (e, p) at h in omega arith

asks_kept : (k : Kind) (T : ℕ) (f : ℕ → ℕ) (ws : List ℕ) → ask k T f ws < T → k ≢ lost
unfolding ask
asks_kept k T f ws h e = let h' = rw e at h in omega arith

asks_count : (k : Kind) (T : ℕ) (f : ℕ → ℕ) (ws : List ℕ) → ask k T f ws < T → is_counting k ≤ ask k T f ws
unfolding ask
asks_count low T f ws h = omega arith
asks_count high T f ws h = omega arith
asks_count counting T f ws h = omega arith
asks_count resetting T f ws h = omega arith
asks_count idle T f ws h = omega arith
asks_count lost T f ws h = omega arith

-- ---- walks that follow least replies

module _ (g : Game) (ins : Inward g) (t : List ℕ) (r : AtRest g t) (σ : ℕ → ℕ) (best : LeastReplies g t σ) where
  down : {v w : ℕ} → v < g.P → at t v < g.T → Step g σ v w → (at t w < g.T) × (is_resetting (g.kind v) ≡ 0 → is_counting (g.kind v) + at t w ≤ at t v)
  down {v} {w} i h s = step_down (g.kind v) g.T (at t) (g.next v) (at t v) w (r.rest v i) h s.edge lowers s.live
    where
      lowers : g.kind v ≡ low → at t w ≤ lowest g.T (at t) (g.next v)
      lowers e = rw (s.chosen e) (lowest_ge g.T (at t (σ v)) (at t) (g.next v) (r.capped (σ v)) (best.least v i e))

  pub stays_below : {v u : ℕ} → v < g.P → at t v < g.T → Walk g σ v u → (u < g.P) × (at t u < g.T)
  stays_below i h (stop e) = rw (← e) (i, h)
  stays_below i h (more {u = u} {w = w} c s) = let q = stays_below i h c in (ins u q.0 w s.edge, (down q.0 q.1 s).0)

  -- until a reset the entry falls by one at each counting position
  pub falls : {v u : ℕ} → v < g.P → at t v < g.T → (c : Walk g σ v u) → resets c ≡ 0 → counts c + at t u ≤ at t v
  falls i h (stop e) z = rw e (omega arith)
  falls i h (more {u = u} {w = w} c s) z =
      let q = stays_below i h c in
      omega (arith, falls i h c (omega arith), (down q.0 q.1 s).1 (omega arith))

  asks_less : {v : ℕ} → v < g.P → at t v < g.T → {u : ℕ} → Walk g σ v u → asked g (at t) u < g.T
  asks_less i h {u} c = let q = stays_below i h c in omega (arith, r.rest u q.0)

  -- Below T is won: by least replies, whichever of several they take.
  pub replies_win : {v : ℕ} → v < g.P → at t v < g.T → Wins g σ v
  replies_win i h = record {
    choice = best.choice;
    alive = λ u c. asks_alive (g.kind u) g.T (at t) (g.next u) (asks_less i h c);
    kept = λ u c. asks_kept (g.kind u) g.T (at t) (g.next u) (asks_less i h c);
    fair = λ u c d b. let q = stays_below i h c in returning u q.0 q.1 d b;
  }
    where
      returning : (u : ℕ) → u < g.P → at t u < g.T → (d : Walk g σ u u) → 0 < counts d → 0 < resets d
      returning u i h d b = go (dec_lt 0 (resets d))
        where
          go : Dec (0 < resets d) → 0 < resets d
          go (yes p) = p
          go (no p) = absurd (omega (arith, falls i h d (omega arith)))

  -- What a number means: on a walk that has left no resetting position there are at most as many counting ones,
  -- the present one and the one where it stands counted, as the entry where it began says.
  pub replies-count : {v u : ℕ} → v < g.P → at t v < g.T → (c : Walk g σ v u) → resets c ≡ 0 → counts c + is_counting (g.kind u) ≤ at t v
  replies-count {v} {u} i h c z =
      let a = r.rest u (stays_below i h c).0 in
      omega (arith, falls i h c z, asks_count (g.kind u) g.T (at t) (g.next u) (asks_less i h c))

-- so from any table at rest an entry below T is won
pub below_won : (g : Game) → Inward g → (t : List ℕ) → AtRest g t → (v : ℕ) → v < g.P → at t v < g.T → Won g v
below_won g ins t r v i h = (λ u. pick (at t) (g.next u), replies_win g ins t r (λ u. pick (at t) (g.next u)) (picks g t) i h)
