-- Duplicator wins no more with memory than without: every position that a strategy with memory holds is won.
-- It is shown in the game that ends at each reset: with Duplicator's win where all steps from there are met by the strategy, and with a loss where not.
-- A position that were lost there Spoiler could draw on from for ever, counting and never resetting, against the strategy. So the entries of
-- that game's least table are ranks, and where it ends with a win, ranks are there again one step on.
use mathlib.Core.Path.{◌≡◌, refl, sym, ap, ◌∙◌, subst}
use mathlib.Core.Logic.{◌≢◌, ◌⊎◌, inl, inr}
use mathlib.Core.List.{List, Memᴰ}
use Prim.Native.Nat.{ℕ, zero, suc, ◌≤◌, ◌<◌}
use native.Mathlib.Nat.{le_refl}
use native.Mathlib.Omega.{arith}
use native.Mathlib.Decide.{dec_lt}
use Rattle.games.specs.Game.{Kind, low, high, counting, resetting, idle, lost, Game, Inward, ask, at}
use Rattle.games.specs.Play.{is_counting, Won, counting_in}
use Rattle.games.specs.Measure.{Upheld, Ranked}
use Rattle.games.specs.Settle.{settle}
use Rattle.games.proofs.Complete.{apart}
use Rattle.games.proofs.Count.{count_mono}
use Rattle.games.proofs.Settle.{settle-least}
use Rattle.games.proofs.Measure.{ranked_won}
use Rattle.games.proofs.Verdict.{won_decided}
use Rattle.plays.specs.Plays.{Often}
use Rattle.plays.proofs.Finite.{decided}
use Rattle.plays.proofs.Drawn.{Drawn, ended, all, one, into, idle_undrawn, Lost, rest-upheld, lost_drawn}
use Rattle.plays.proofs.Ends.{end_at, end-never, end_counting, end_same}

-- A strategy with memory: states of mind, each at a position of Spoiler's, and between which of them a round may lead.
pub record Memory (g : Game) (State : Type 0) (place : State → ℕ) (Goes : State → State → Type 0) : Type 0 where
  pub inside : (s : State) → place s < g.P
  pub spoilers : (s : State) → g.kind (place s) ≢ low
  pub kept : (s : State) → g.kind (place s) ≢ lost
  -- Each step of Spoiler's leads to a position of Duplicator's, and the strategy has a step from there.
  pub answered : (s : State) (w : ℕ) → Memᴰ w (g.next (place s)) → (g.kind w ≡ low) × (t : State) × Memᴰ (place t) (g.next w) × Goes s t
  -- No play counts infinitely often without a reset.
  pub fair : (play : ℕ → State) → ((i : ℕ) → Goes (play i) (play (suc i))) → ((i : ℕ) → g.kind (place (play i)) ≢ resetting)
      → Often (λ i. g.kind (place (play i)) ≡ counting) → ⊥

-- ---- what the strategy holds

module _ (g : Game) (ins : Inward g) (enough : counting_in g < g.T) {State : Type 0} (place : State → ℕ) (Goes : State → State → Type 0) (M : Memory g State place Goes) where
  -- a step of Spoiler's leads to w from a position that the strategy holds
  abbrev Met : ℕ → Type 0
  Met w = (s : State) × Memᴰ w (g.next (place s))

  -- all steps from v lead to such positions
  abbrev Open : ℕ → Type 0
  Open v = (v < g.P) × ((w : ℕ) → Memᴰ w (g.next v) → Met w)

  open_held : (s : State) → Open (place s)
  open_held s = (M.inside s, λ w m. (s, m))

  module _ (d : (v : ℕ) → Dec (Open v)) where
    -- the game that ends at each reset
    abbrev short : Game
    short = record { P = g.P; T = g.T; next = g.next; kind = λ v. end_at (g.kind v) (d v) }

    abbrev table : List ℕ
    table = (settle short).table

    abbrev Draws : ℕ → Type 0
    Draws = Drawn short (Lost short table)

    short-enough : counting_in short < g.T
    short-enough = omega (arith, count_mono (λ v. is_counting (short.kind v)) (λ v. is_counting (g.kind v)) g.P (λ v i. omega (arith, end_counting (g.kind v) (d v))))

    module _ (e : (v : ℕ) → Dec ((v < g.P) × Draws v)) where
      drawn : (v : ℕ) → v < g.P → Lost short table v → Draws v
      drawn = lost_drawn short ins (λ v. end-never (g.kind v) (d v)) short-enough table (settle-least short) e

      -- ---- no play is drawn from a position that is held

      -- Spoiler leads the strategy on from s to a counting position, and can go on drawing from there.
      data Led : State → Type 0 where
        on : {s t : State} → g.kind (place s) ≢ resetting → Goes s t → Led t → Led s
        counted : {s t : State} → g.kind (place s) ≡ counting → Goes s t → Draws (place t) → Led s

      -- At a position that is held no kind is changed.
      held-kind : (s : State) {v : ℕ} → place s ≡ v → Draws v → (g.kind (place s) ≢ resetting) × (g.kind (place s) ≡ short.kind v)
      held-kind s {v} q x = go (end_same (g.kind (place s)) (d (place s)) (open_held s))
        where
          go : ((g.kind (place s) ≡ resetting) × (short.kind (place s) ≡ idle)) ⊎ ((g.kind (place s) ≢ resetting) × (short.kind (place s) ≡ g.kind (place s)))
              → (g.kind (place s) ≢ resetting) × (g.kind (place s) ≡ short.kind v)
          go (inl p) = absurd (idle_undrawn x (ap short.kind (sym q) ∙ p.1))
          go (inr p) = (p.0, sym p.1 ∙ ap short.kind q)

      low-kind : {v : ℕ} → g.kind v ≡ low → short.kind v ≡ low
      low-kind {v} l = ap (λ (k : Kind). end_at k (d v)) l

      answer : {w u : ℕ} → Draws w → g.kind w ≡ low → Memᴰ u (g.next w) → Draws u
      answer (ended p) l m = apart (cc (low-kind l))
      answer {u = u} (all p f) l m = f u m
      answer (one p i x) l m = apart (cc (low-kind l))
      answer (into p i y) l m = apart (cc (low-kind l))

      step_from : (s : State) {v w : ℕ} → place s ≡ v → Memᴰ w (g.next v) → Memᴰ w (g.next (place s))
      step_from s {w = w} q i = subst (λ (z : ℕ). Memᴰ w (g.next z)) (sym q) i

      -- so from a position that is held, and from the answer to one of Duplicator's
      lead : {v : ℕ} → Draws v → ((s : State) → place s ≡ v → Led s) × ((t : State) → g.kind v ≡ low → Memᴰ (place t) (g.next v) → Led t)
      lead (ended p) = (λ s q. absurd (M.kept s ((held-kind s q (ended p)).1 ∙ p)), λ t l m. apart (cc (low-kind l)))
      lead (all p f) = (λ s q. absurd (M.spoilers s ((held-kind s q (all p f)).1 ∙ p)), λ t l m. (lead (f (place t) m)).0 t refl)
      lead (one {w = w} p i x) = (
        λ s q. let (l, t, j, o) = M.answered s w (step_from s q i) in on (held-kind s q (one p i x)).0 o ((lead x).1 t l j),
        λ t l m. apart (cc (low-kind l)),
      )
      lead (into {w = w} p i y) = (
        λ s q.
            let k = step_from s q i in
            let (l, t, j, o) = M.answered s w k in
            counted ((held-kind s q (into p i y)).1 ∙ p) o (answer (drawn w (ins (place s) (M.inside s) w k) y) l j),
        λ t l m. apart (cc (low-kind l)),
      )

      onward : (s : State) → Led s → (t : State) × Led t × Goes s t
      onward s (on {t = t} r o l) = (t, l, o)
      onward s (counted {t = t} c o x) = (t, (lead x).0 t refl, o)

      unreset : (s : State) → Led s → g.kind (place s) ≢ resetting
      unreset s (on r o l) = r
      unreset s (counted c o x) = λ r. apart (cc)

      -- the play in which Spoiler goes on so for ever
      path : (s : State) → Led s → ℕ → (t : State) × Led t
      path s l zero = (s, l)
      path s l (suc n) = let p = path s l n in let q = onward p.0 p.1 in (q.0, q.1)

      counts-soon : (s₀ : State) (l₀ : Led s₀) (s : State) (l : Led s) (n : ℕ) → path s₀ l₀ n ≡ (s, l)
          → (i : ℕ) × (n ≤ i) × (g.kind (place (path s₀ l₀ i).0) ≡ counting)
      unfolding path onward
      counts-soon s₀ l₀ s (on {t = t} r o l) n e =
          let (i, b, c) = counts-soon s₀ l₀ t l (suc n) (ap (λ (p : (s : State) × Led s). let q = onward p.0 p.1 in (q.0, q.1)) e) in
          (i, omega arith, c)
      counts-soon s₀ l₀ s (counted c o x) n e = (n, le_refl n, ap (λ (p : (s : State) × Led s). g.kind (place p.0)) e ∙ c)

      undrawn : (s : State) → ¬ Draws (place s)
      unfolding path
      undrawn s x =
          let l = (lead x).0 s refl in
          let p = path s l in
          M.fair (λ i. (p i).0) (λ i. (onward (p i).0 (p i).1).2) (λ i. unreset (p i).0 (p i).1) (λ n. counts-soon s l (p n).0 (p n).1 n refl)

      -- ---- so entries below T are ranks, in the game with its resets too

      undrawn-below : (v : ℕ) → v < g.P → (¬ Draws v) → at table v < g.T
      undrawn-below v i n = go (dec_lt (at table v) g.T)
        where
          go : Dec (at table v < g.T) → at table v < g.T
          go (yes h) = h
          go (no h) = absurd (n (drawn v i (omega arith)))

      met-below : (w : ℕ) → Met w → at table w < g.T
      met-below w (s, m) =
          let (l, t, j, o) = M.answered s w m in
          undrawn-below w (ins (place s) (M.inside s) w m) (λ x. undrawn t (answer x l j))

      abbrev Rank : ℕ → ℕ → Type 0
      Rank v p = (p ≡ at table v) × (p < g.T)

      rest-ranks : (v m : ℕ) → m < g.T → (k : Kind) (x : Dec (Open v)) → ask (end_at k x) g.T (at table) (g.next v) ≤ m → Upheld k Rank (g.next v) m
      unfolding ask
      rest-ranks v m h low x a = rest-upheld g.T (at table) (g.next v) Rank (λ w i b. (refl, b)) m h low a
      rest-ranks v m h high x a = rest-upheld g.T (at table) (g.next v) Rank (λ w i b. (refl, b)) m h high a
      rest-ranks v m h counting x a = rest-upheld g.T (at table) (g.next v) Rank (λ w i b. (refl, b)) m h counting a
      rest-ranks v m h resetting (yes o) a = λ w i. (at table w, (refl, met-below w (o.1 w i)))
      rest-ranks v m h resetting (no o) a = absurd (omega arith)
      rest-ranks v m h idle x a = tt
      rest-ranks v m h lost x a = absurd (omega arith)

      ranked : Ranked g g.T Rank
      ranked = record {
        bounded = λ v m r. r.1;
        upheld = λ v m i r. rest-ranks v m r.1 (g.kind v) (d v) (rw r.0 ((settle-least short).at_rest.rest v i));
      }

      held_won : (s : State) → Won g (place s)
      held_won s =
          let i = M.inside s in
          ranked_won g ins g.T Rank ranked (place s) (at table (place s)) i (refl, undrawn-below (place s) i (undrawn s))

  -- Winning is decided, so it may be shown by contradiction, and the cases above are there.
  pub memory_won : (s : State) → Won g (place s)
  memory_won s = go (won_decided g ins enough (place s) (M.inside s))
    where
      go : Dec (Won g (place s)) → Won g (place s)
      go (yes w) = w
      go (no n) = absurd (decided (λ v. (w : ℕ) → Memᴰ w (g.next v) → Met w) g.P (λ d. decided (Draws d) g.P (λ e. n (held_won d e s))))
