-- What a number means in play, for every table at rest: the rounds of mode 2, and the count of mode 3.
use mathlib.Core.Path.{◌≡◌, refl, sym, ap, ◌∙◌, subst}
use mathlib.Core.Logic.{◌≢◌, inl, inr, ⊎_map}
use mathlib.Core.Bool.{Bool, true, false, not, ◌&&◌}
use mathlib.Core.List.{List, [], Memᴰ}
use Prim.Native.Nat.{ℕ, zero, suc, ◌+◌, ◌≤◌, ◌<◌}
use native.Mathlib.Nat.{le_refl}
use native.Mathlib.Omega.{arith}
use native.Mathlib.Decide.{dec_lt}
use Rattle.games.specs.Game.{at}
use Rattle.games.specs.Lift.{AtRest}
use Rattle.games.specs.Play.{is_counting}
use Rattle.games.proofs.Replies.{stays_below, replies-count, falls}
use Rattle.automaton.specs.declared.Mode.{Mode}
use Rattle.automaton.specs.declared.Mode.TheVariants.{Delayed, Fair}
use Rattle.automaton.specs.Board.{Board, accepts, Formed}
use Rattle.simulation.specs.Moves.{Arrow, arrows, targets}
use Rattle.simulation.specs.Position.{Position, spoiler, duplicator, number}
use Rattle.simulation.specs.Rules.{pended, eased, challenge, reply, steps, turn, bit, ceiling, game, beginning}
use Rattle.simulation.specs.Won.{Choices, Follows, Keeps, Walks, here, onward, Met, Answered}
use Rattle.simulation.specs.Answers.{replies}
use Rattle.simulation.specs.Meaning.{Heeds, Brings, Idle, Plays, starts, goes, ahead, tally, tally_all, Leaves}
use Rattle.simulation.proofs.Position.{number_lt}
use Rattle.simulation.proofs.Inward.{inward}
use Rattle.simulation.proofs.Turns.{is_idle, Live, owed-live, counting_at, resetting_at, resetting_relief}
use Rattle.simulation.proofs.Walks.{Good, walk_good, steps-live}
use Rattle.simulation.proofs.Same.{kind-is, by_number, by_number_agrees, to_walk}
use Rattle.simulation.proofs.Reply.{replies-chosen, replies-least, replies_won}

-- ---- along walks that follow the replies

module _ (B : Board) (F : Formed B) (m : Mode) (t : List ℕ) (rest : AtRest (game B m) t) {p u : Position} (g : Good B m p) (h : at t (number B m p) < ceiling B m) (c : Walks B m (replies B m t) p u) (z : tally (resetting_at B m) c ≡ 0) where
  -- until a resetting position is left, the counting ones are at most the entry
  walk_count : tally (counting_at B m) c + counting_at B m u ≤ at t (number B m p)
  walk_count =
      let σ = replies B m t in
      let (d, x, y) = to_walk B F m (by_number B m σ) σ (by_number_agrees B F m σ (replies-chosen B F m t)) g c in
      omega (arith, replies-count (game B m) (inward B F m) t rest (by_number B m σ) (replies-least B F m t) (number_lt B m p g.0) h d (omega arith), ap is_counting (kind-is B m u (walk_good B F m g c).0))

  -- and the entry falls with them
  walk_falls : tally (counting_at B m) c + at t (number B m u) ≤ at t (number B m p)
  walk_falls =
      let σ = replies B m t in
      let (d, x, y) = to_walk B F m (by_number B m σ) σ (by_number_agrees B F m σ (replies-chosen B F m t)) g c in
      omega (arith, falls (game B m) (inward B F m) t rest (by_number B m σ) (replies-least B F m t) (number_lt B m p g.0) h d (omega arith))

-- the entry stays below T
pub walk_below : (B : Board) (F : Formed B) (m : Mode) (t : List ℕ) → AtRest (game B m) t → {p u : Position} → Good B m p → at t (number B m p) < ceiling B m
    → Walks B m (replies B m t) p u → at t (number B m u) < ceiling B m
walk_below B F m t rest {p} g h c =
    let σ = replies B m t in
    (stays_below (game B m) (inward B F m) t rest (by_number B m σ) (replies-least B F m t) (number_lt B m p g.0) h
    (to_walk B F m (by_number B m σ) σ (by_number_agrees B F m σ (replies-chosen B F m t)) g c).0).1

-- Whoever follows the replies keeps to them: a walk goes through the same positions.
module _ (B : Board) (F : Formed B) (m : Mode) (t : List ℕ) (rest : AtRest (game B m) t) (σ : Choices) (heeds : Heeds B m t σ) where
  heeded_step : {u w : Position} → Good B m u → at t (number B m u) < ceiling B m → Keeps B m σ u w → Keeps B m (replies B m t) u w
  heeded_step {u} {w} g h s = record { step = s.step; follows = follows u g h s.follows }
    where
      follows : (u : Position) → Good B m u → at t (number B m u) < ceiling B m → Follows B m σ u w → Follows B m (replies B m t) u w
      follows (spoiler b q r) g h e = tt
      follows (duplicator b q r a) g h e = e ∙ ap (reply B m b q) (heeds b q r a g.0 h)

  heeded : {p u : Position} → Good B m p → at t (number B m p) < ceiling B m → (c : Walks B m σ p u)
      → (d : Walks B m (replies B m t) p u) × ((f : Position → ℕ) → tally f d ≡ tally f c) × (Leaves (Answered B) d → Leaves (Answered B) c)
  heeded g h (here e) = (here e, λ f. refl, λ x. x)
  heeded g h (onward {u = v} c s) =
      let (d, x, y) = heeded g h c in
      (onward d (heeded_step (walk_good B F m g d) (walk_below B F m t rest g h d) s), λ f. ap (λ (n : ℕ). n + f v) (x f), ⊎_map y (λ z. z))

-- ---- mode 2

met_brings : (B : Board) (σ : Choices) (n : ℕ) (p : Position) → Met p → Brings B σ n p
met_brings B σ zero p e = e
met_brings B σ (suc n) p e = inl e

unmarked : (x y : Bool) → is_idle (turn Delayed 1 x y) ≡ 0 → y ≡ false
unmarked x true d = absurd (omega arith)
unmarked x false d = refl

module _ (B : Board) (F : Formed B) (t : List ℕ) (rest : AtRest (game B Delayed) t) (σ : Choices) (heeds : Heeds B Delayed t σ) where
  -- the entry at Spoiler's position with b = 1
  abbrev Entry : (q r : ℕ) → ℕ
  Entry q r = at t (number B Delayed (spoiler 1 q r))

  abbrev Promised : (n q r : ℕ) → Type 0
  Promised n q r = q < B.n → r < B.n → accepts B r ≡ false → Entry q r ≤ n → Entry q r < ceiling B Delayed → Brings B σ n (spoiler 1 q r)

  -- where a round has led: to b = 0, or to b = 1 with Blue not accepting and a smaller entry
  after-round : (n b q r : ℕ) → Good B Delayed (spoiler b q r) → at t (number B Delayed (spoiler b q r)) ≤ n
      → at t (number B Delayed (spoiler b q r)) < ceiling B Delayed → Promised n q r → Brings B σ n (spoiler b q r)
  after-round n zero q r g m k rec = met_brings B σ n (spoiler zero q r) refl
  after-round n (suc zero) q r g m k rec = rec g.0.1 g.0.2 (unmarked (accepts B q) (accepts B r) g.1) m k
  after-round n (suc (suc b)) q r g m k rec = absurd (omega (arith, g.0.0))

  brings : (n q r : ℕ) → Promised n q r
  brings zero q r h l e le b =
      let c : 1 ≤ Entry q r = omega (arith, rw e at (walk_count B F Delayed t rest {p = spoiler 1 q r} {u = spoiler 1 q r} ((omega arith, h, l), rw e refl) b (here refl) refl)) in
      absurd (omega arith)
  brings (suc n) q r h l e le b =
      inr (λ w i. let (x, y, z) = mathlib.Core.List.Memᴰ.of_map (challenge B Delayed 1 r) (arrows B q) i in subst Replied z (round x y (λ q' r'. brings n q' r')))
    where
      ρ : Choices
      ρ = replies B Delayed t

      p : Position
      p = spoiler 1 q r

      Replied : Position → Type 0
      Replied w = (w' : Position) × Keeps B Delayed σ w w' × Brings B σ n w'

      good : Good B Delayed p
      good = ((omega arith, h, l), rw e refl)

      counted : counting_at B Delayed p ≡ 1
      counted = rw e

      -- one round: Spoiler's move x, and the reply
      round : (x : Arrow) → Memᴰ x (arrows B q) → ((q' r' : ℕ) → Promised n q' r') → Replied (challenge B Delayed 1 r x)
      round x y rec =
          let b₁ = pended Delayed (accepts B x.goal) 1 in
          let w = challenge B Delayed 1 r x in
          let k₁ : Keeps B Delayed ρ p w = record { step = mathlib.Core.List.Memᴰ.map (challenge B Delayed 1 r) y; follows = tt } in
          let c₁ : Walks B Delayed ρ p w = onward (here refl) k₁ in
          let ne : targets B r x.by ≢ [] = (replies_won B F Delayed t rest p good b).alive w c₁ in
          let g₁ = walk_good B F Delayed good c₁ in
          let r' = ρ b₁ x.goal r x.by in
          let w' = reply B Delayed b₁ x.goal r' in
          let i : Memᴰ r' (targets B r x.by) = replies-chosen B F Delayed t b₁ x.goal r x.by g₁.0 ne in
          let led : Memᴰ w' (steps B Delayed w) = mathlib.Core.List.Memᴰ.map (reply B Delayed b₁ x.goal) i in
          let c₂ : Walks B Delayed ρ p w' = onward c₁ (record { step = led; follows = refl }) in
          let f = walk_falls B F Delayed t rest good b c₂ (rw e refl) in
          let same : σ b₁ x.goal r x.by ≡ r' = heeds b₁ x.goal r x.by g₁.0 (walk_below B F Delayed t rest good b c₁) in
          let k₂ : Keeps B Delayed σ w w' = record { step = led; follows = ap (reply B Delayed b₁ x.goal) (sym same) } in
          (w', k₂, after-round n (eased Delayed (accepts B r') b₁) x.goal r' (walk_good B F Delayed good c₂) (omega (arith, counted, f)) (omega (arith, f)) (rec x.goal r'))

  -- "from Spoiler's position with b = 1, q' not accepting and entry m below T, following the replies brings b to 0 within m rounds, or Spoiler has no move first"
  pub delayed_rounds : (q r : ℕ) → q < B.n → r < B.n → accepts B r ≡ false → at t (number B Delayed (spoiler 1 q r)) < ceiling B Delayed
      → Brings B σ (at t (number B Delayed (spoiler 1 q r))) (spoiler 1 q r)
  delayed_rounds q r h l e b = brings (Entry q r) q r h l e (le_refl (Entry q r)) b

-- "no play from a pair's beginning reaches" an idle position
pub never-idle : (B : Board) (q r : ℕ) {u : Position} → Plays B Delayed (beginning B Delayed q r) u → Idle B u → ⊥
never-idle B q r {u} c = not-idle u (live c)
  where
    live : {u : Position} → Plays B Delayed (beginning B Delayed q r) u → Live B Delayed u
    live (starts e) = subst (Live B Delayed) e (owed-live Delayed (accepts B q) (accepts B r))
    live (goes {u = v} d i) = steps-live B Delayed v i

    not-idle : (p : Position) → Live B Delayed p → Idle B p → ⊥
    not-idle (spoiler b q r) l (e, d) = omega (arith, rw (e, d) at l)
    not-idle (duplicator b q r a) l d = d

-- ---- mode 3

module _ (B : Board) where
  ahead_counting : (p : Position) → ahead B p ≡ counting_at B Fair p
  ahead_counting (duplicator b q r a) = refl
  ahead_counting (spoiler b q r) = go (accepts B q) (accepts B r)
    where
      go : (x y : Bool) → bit (x && not y) ≡ is_counting (turn Fair b x y)
      go true true = refl
      go false true = refl
      go true false = refl
      go false false = refl

  aheads : {σ : Choices} {p u : Position} (c : Walks B Fair σ p u) → tally (ahead B) c ≡ tally (counting_at B Fair) c
  aheads (here e) = refl
  aheads (onward {u = u} c s) = omega (arith, aheads c, ahead_counting u)

  unanswered : {σ : Choices} {p u : Position} (c : Walks B Fair σ p u) → (Leaves (Answered B) c → ⊥) → tally (resetting_at B Fair) c ≡ 0
  unanswered (here e) n = refl
  unanswered (onward {u = u} c s) n = go (dec_lt 0 (resetting_at B Fair u)) (unanswered c (λ x. n (inl x)))
    where
      go : Dec (0 < resetting_at B Fair u) → tally (resetting_at B Fair) c ≡ 0 → tally (resetting_at B Fair) c + resetting_at B Fair u ≡ 0
      go (yes h) rec = absurd (n (inr (resetting_relief B Fair u h)))
      go (no h) rec = omega arith

fair-live : (x y : Bool) → is_idle (turn Fair 0 x y) ≡ 0
fair-live x true = refl
fair-live true false = refl
fair-live false false = refl

-- "from Spoiler's position with entry m below T, following the replies, at most m Spoiler's positions with Red accepting and Blue not,
-- the present one counted, come before the first where Blue accepts, or in all if none does"
pub fair-count : (B : Board) → Formed B → (t : List ℕ) → AtRest (game B Fair) t → (σ : Choices) → Heeds B Fair t σ → (q r : ℕ) → q < B.n → r < B.n
    → at t (number B Fair (spoiler 0 q r)) < ceiling B Fair
    → {u : Position} (c : Walks B Fair σ (spoiler 0 q r) u)
    → (Leaves (Answered B) c → ⊥) → tally_all (ahead B) c ≤ at t (number B Fair (spoiler 0 q r))
fair-count B F t rest σ heeds q r h l b {u} c n =
    let good : Good B Fair (spoiler 0 q r) = ((omega arith, h, l), fair-live (accepts B q) (accepts B r)) in
    let (d, x, y) = heeded B F Fair t rest σ heeds good b c in
    omega (arith, x (ahead B), walk_count B F Fair t rest good b d (unanswered B d (λ z. n (y z))), aheads B d, ahead_counting B u)
