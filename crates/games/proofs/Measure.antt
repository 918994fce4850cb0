-- Whoever holds positions with ranks, by the rules of the game and with no ceiling, wins them. Winning does not depend on the ceiling.
use mathlib.Core.Path.{◌≡◌, refl, ap}
use mathlib.Core.Logic.{inl, inr}
use mathlib.Core.List.{List, Memᴰ}
use Prim.Native.Nat.{ℕ, zero, suc, ◌+◌, ◌≤◌, ◌<◌, min, max}
use native.Mathlib.Nat.{le_trans}
use native.Mathlib.Omega.{arith}
use native.Mathlib.Decide.{ℕ_discrete}
use Rattle.games.specs.Game.{Kind, low, high, counting, resetting, idle, lost, Game, Inward, ask, at, highest, full}
use Rattle.games.specs.Play.{is_counting, is_resetting, Walk, stop, more, counts, resets, Won}
use Rattle.games.specs.Settle.{settle}
use Rattle.games.specs.Measure.{Upheld, Ranked, RestOn}
use Rattle.games.proofs.Asked.{High, highest_in, full_miss, lowest_le}
use Rattle.games.proofs.Lift.{Closed, from-cleared}
use Rattle.games.proofs.Settle.{settle-by, settle-rest}
use Rattle.games.proofs.Replies.{below_won}

-- ---- the same game with another ceiling

abbrev pub under : Game → (ceiling : ℕ) → Game
under g B = record { P = g.P; T = B; next = g.next; kind = g.kind }

module _ (g : Game) (B C : ℕ) (σ : ℕ → ℕ) where
  walk_under : {v u : ℕ} → Walk (under g B) σ v u → Walk (under g C) σ v u
  walk_under (stop e) = stop e
  walk_under (more c s) = more (walk_under c) (record { edge = s.edge; chosen = s.chosen; live = s.live })

  counts-under : {v u : ℕ} (c : Walk (under g B) σ v u) → counts (walk_under c) ≡ counts c
  unfolding walk_under
  counts-under (stop e) = refl
  counts-under (more {u = u} c s) = ap (λ i. i + is_counting (g.kind u)) (counts-under c)

  resets-under : {v u : ℕ} (c : Walk (under g B) σ v u) → resets (walk_under c) ≡ resets c
  unfolding walk_under
  resets-under (stop e) = refl
  resets-under (more {u = u} c s) = ap (λ i. i + is_resetting (g.kind u)) (resets-under c)

pub won_under : (g : Game) (B C v : ℕ) → Won (under g B) v → Won (under g C) v
won_under g B C v (σ, w) = (
  σ,
  record {
    choice = w.choice;
    alive = λ u c. w.alive u (walk_under g C B σ c);
    kept = λ u c. w.kept u (walk_under g C B σ c);
    fair = λ u c d b. rw (resets-under g C B σ d) at (w.fair u (walk_under g C B σ c) (walk_under g C B σ d) (rw (counts-under g C B σ d) b));
  },
)

-- ---- ranks win

-- a position that is upheld with rank m asks for at most m, where the entries are at most the ranks
module _ (B : ℕ) (R : ℕ → ℕ → Type 0) (below : (v m : ℕ) → R v m → m < B) (f : ℕ → ℕ) (h : (w m : ℕ) → R w m → f w ≤ m) (ws : List ℕ) (m : ℕ) (lt : m < B) where
  upheld-ask : (k : Kind) → Upheld k R ws m → ask k B f ws ≤ m
  unfolding ask
  upheld-ask low (w, i, (p, l, r)) = omega (arith, lowest_le B f i, h w p r)
  upheld-ask high c = go (highest_in f ws)
    where
      go : High f ws (highest f ws) → highest f ws ≤ m
      go (inl z) = omega arith
      go (inr (w, i, l)) = let (p, k, r) = c w i in omega (arith, h w p r)
  upheld-ask counting c = go (highest_in f ws)
    where
      go : High f ws (highest f ws) → min (suc (highest f ws)) B ≤ m
      go (inl z) = omega (arith, c.0)
      go (inr (w, i, l)) = let (p, k, r) = c.1 w i in omega (arith, h w p r)
  upheld-ask resetting c = go (highest_in f ws)
    where
      go : High f ws (highest f ws) → full B (highest f ws) ≤ m
      go (inl z) = omega (arith, full_miss B (highest f ws) (omega arith))
      go (inr (w, i, l)) = let (p, r) = c w i in omega (arith, full_miss B (highest f ws) (omega (arith, h w p r, below w p r)))
  upheld-ask idle c = omega arith
  upheld-ask lost c = absurd c

pub ranked_won : (g : Game) → Inward g → (B : ℕ) (R : ℕ → ℕ → Type 0) → Ranked g B R → (v m : ℕ) → v < g.P → R v m → Won g v
ranked_won g ins B R ranked v m i r =
    won_under g B g.T v (below_won (under g B) ins (settle (under g B)).table (settle-rest (under g B)) v i (omega (arith, lies-below, ranked.bounded v m r)))
  where
    closed : Closed (under g B) (λ w n. (m : ℕ) → R w m → n ≤ m)
    closed f h v i m r = upheld-ask B R ranked.bounded f h (g.next v) m (ranked.bounded v m r) (g.kind v) (ranked.upheld v m i r)

    lies-below : at (settle (under g B)).table v ≤ m
    lies-below =
        let (vs, e) = settle-by (under g B) in
        rw e at (from-cleared (λ w n. (m : ℕ) → R w m → n ≤ m) (under g B) closed (λ w k s. omega arith) vs v m r)

-- ---- a function at rest on a set wins there

-- a number above all of f's below n
top_of : (ℕ → ℕ) → ℕ → ℕ
top_of f zero = 0
top_of f (suc n) = max (suc (f n)) (top_of f n)

top_of_above : (f : ℕ → ℕ) (n v : ℕ) → v < n → f v < top_of f n
unfolding top_of
top_of_above f zero v h = absurd (omega arith)
top_of_above f (suc n) v h = go (ℕ_discrete v n) (λ i. top_of_above f n v i)
  where
    go : Dec (v ≡ n) → (v < n → f v < top_of f n) → f v < max (suc (f n)) (top_of f n)
    go (yes e) rec = rw e (omega arith)
    go (no ne) rec = omega (arith, rec (omega arith))

module _ (S : ℕ → Type 0) (f : ℕ → ℕ) (P : ℕ) (ws : List ℕ) (ins : (w : ℕ) → Memᴰ w ws → w < P) (m : ℕ) where
  -- the value of f is the one rank of a position of S
  abbrev Value : ℕ → ℕ → Type 0
  Value w p = (w < P) × S w × (p ≡ f w)

  upheld-value : (k : Kind) → Upheld k (λ w p. S w × (f w ≤ p)) ws m → Upheld k Value ws m
  upheld-value low (w, i, (p, l, (s, b))) = (w, i, (f w, le_trans b l, (ins w i, s, refl)))
  upheld-value high c = λ w i. let (p, l, (s, b)) = c w i in (f w, le_trans b l, (ins w i, s, refl))
  upheld-value counting c = (c.0, λ w i. let (p, l, (s, b)) = c.1 w i in (f w, omega arith, (ins w i, s, refl)))
  upheld-value resetting c = λ w i. let (p, (s, b)) = c w i in (f w, (ins w i, s, refl))
  upheld-value idle c = c
  upheld-value lost c = c

pub measure_won : (g : Game) → Inward g → (S : ℕ → Type 0) (f : ℕ → ℕ) → RestOn g S f → (v : ℕ) → v < g.P → S v → Won g v
measure_won g ins S f rest v i s = ranked_won g ins (top_of f g.P) R ranked v (f v) i (i, s, refl)
  where
    R : ℕ → ℕ → Type 0
    R w p = (w < g.P) × S w × (p ≡ f w)

    ranked : Ranked g (top_of f g.P) R
    ranked = record {
      bounded = λ w m r. rw r.2 (top_of_above f g.P w r.0);
      upheld = λ w m i r. rw r.2 (upheld-value S f g.P (g.next w) (ins w i) (f w) (g.kind w) (rest w i r.1));
    }
