-- Walks that keep to a choice: they stay in range and never come to an idle position; what they meet, by counting.
use mathlib.Core.Path.{◌≡◌, refl, subst}
use mathlib.Core.Logic.{◌⊎◌, inl, inr}
use mathlib.Core.List.Memᴰ
use mathlib.Core.List.{Memᴰ}
use Prim.Native.Nat.{ℕ, ◌+◌, ◌<◌}
use native.Mathlib.Omega.{arith}
use native.Mathlib.Decide.{dec_lt}
use Rattle.games.specs.Game.{lost}
use Rattle.automaton.specs.declared.Mode.{Mode}
use Rattle.automaton.specs.declared.Mode.TheVariants.{Ordinary, Direct, Delayed, Fair}
use Rattle.automaton.specs.Board.{Board, accepts, Formed}
use Rattle.simulation.specs.Moves.{arrows, targets}
use Rattle.simulation.specs.Position.{Position, spoiler, duplicator, Fits}
use Rattle.simulation.specs.Rules.{challenge, reply, steps, kind_of, beginning}
use Rattle.simulation.specs.Won.{Choices, Walks, here, onward, long, Meets, Returning, Obeys}
use Rattle.simulation.specs.Meaning.{tally}
use Rattle.simulation.proofs.Inward.{steps-fit}
use Rattle.simulation.proofs.Turns.{Trigger, Relief, Live, eased-live, owed-live, owed_lt, never_lost, lost_ahead, ahead_lost}

-- ---- in range, and not idle

-- no step leads to an idle position, wherever it starts
pub steps-live : (B : Board) (m : Mode) (p : Position) {w : Position} → Memᴰ w (steps B m p) → Live B m w
steps-live B m (spoiler b q r) {w} i = let (e, x, y) = Memᴰ.of_map (challenge B m b r) (arrows B q) i in subst (Live B m) y refl
steps-live B m (duplicator b q r a) {w} i =
    let (s, x, y) = Memᴰ.of_map (reply B m b q) (targets B r a) i in
    subst (Live B m) y (eased-live m b (accepts B q) (accepts B s))

-- a position in range that is not idle
abbrev pub Good : Board → Mode → Position → Type 0
Good B m p = Fits B m p × Live B m p

module _ (B : Board) (F : Formed B) (m : Mode) where
  pub beginning-good : (q r : ℕ) → q < B.n → r < B.n → Good B m (beginning B m q r)
  beginning-good q r h l = ((owed_lt m (accepts B q) (accepts B r), h, l), owed-live m (accepts B q) (accepts B r))

  pub walk_good : {σ : Choices} {p u : Position} → Good B m p → Walks B m σ p u → Good B m u
  walk_good g (here e) = subst (Good B m) e g
  walk_good g (onward {u = u} c s) = (steps-fit B F m u (walk_good g c).0 s.step, steps-live B m u s.step)

-- ---- what a walk meets

module _ {B : Board} {m : Mode} {σ : Choices} (X : Position → Type 0) (f : Position → ℕ) where
  pub meets_last : {p u : Position} → X u → (c : Walks B m σ p u) → Meets X c
  meets_last x (here e) = x
  meets_last x (onward c s) = inr x

  pub tally-long : {p u : Position} (c : Walks B m σ p u) → 0 < tally f c → 0 < long c
  tally-long (here e) h = absurd (omega arith)
  tally-long (onward c s) h = omega arith

  -- where f is positive only at X, a positive tally meets X
  pub tally_meets : ((w : Position) → 0 < f w → X w) → {p u : Position} (c : Walks B m σ p u) → 0 < tally f c → Meets X c
  tally_meets fx (here e) h = absurd (omega arith)
  tally_meets fx (onward {u = u} c s) h = inl (go (dec_lt 0 (f u)) (λ l. tally_meets fx c l))
    where
      go : Dec (0 < f u) → (0 < tally f c → Meets X c) → Meets X c
      go (yes l) rec = meets_last (fx u l) c
      go (no l) rec = rec (omega arith)

  -- and where f is positive at every X on the way, a stretch that returns and meets X has a positive tally
  module _ (F : Formed B) (xf : (w : Position) → Good B m w → X w → 0 < f w) where
    meets_tally : {p u : Position} → Good B m p → (c : Walks B m σ p u) → Meets X c → (0 < tally f c) ⊎ X u
    meets_tally g (here e) t = inr t
    meets_tally g (onward {u = u} {w = w} c s) (inl t) = go (meets_tally g c t)
      where
        go : (0 < tally f c) ⊎ X u → (0 < tally f c + f u) ⊎ X w
        go (inl h) = inl (omega arith)
        go (inr x) = inl (omega (arith, xf u (walk_good B F m g c) x))
    meets_tally g (onward c s) (inr t) = inr t

    start-met : {p u : Position} → Good B m p → X p → (c : Walks B m σ p u) → 0 < tally f c + f u
    start-met {p} g x (here {u = u} e) = omega (arith, subst (λ (z : Position). 0 < f z) e (xf p g x))
    start-met g x (onward c s) = omega (arith, start-met g x c)

    start-tally : {p u : Position} → Good B m p → X p → (c : Walks B m σ p u) → 0 < long c → 0 < tally f c
    start-tally g x (here e) l = absurd (omega arith)
    start-tally g x (onward c s) l = start-met g x c

    pub returning_tally : {p : Position} → Good B m p → (c : Walks B m σ p p) → 0 < long c → Meets X c → 0 < tally f c
    returning_tally {p} g c l t = go (meets_tally g c t)
      where
        go : (0 < tally f c) ⊎ X p → 0 < tally f c
        go (inl h) = h
        go (inr x) = start-tally g x c l

-- ---- a mode's condition, in two parts

-- no lost position is reached
abbrev pub Kept : Board → Mode → Choices → Position → Type 0
Kept B m σ p = (u : Position) → Walks B m σ p u → kind_of B m u ≡ lost → ⊥

module _ (B : Board) where
  pub obey : (m : Mode) (σ : Choices) (p : Position) → Kept B m σ p → Returning B m σ p (Trigger B m) (Relief B m) → Obeys B m σ p
  obey Ordinary σ p k r = tt
  obey Direct σ p k r = λ u c t. k u c (ahead_lost B u t)
  obey Delayed σ p k r = r
  obey Fair σ p k r = r

  pub obeys-kept : (m : Mode) (σ : Choices) (p : Position) → Obeys B m σ p → Kept B m σ p
  obeys-kept Ordinary σ p o u c e = never_lost B Ordinary refl u e
  obeys-kept Direct σ p o u c e = o u c (lost_ahead B u e)
  obeys-kept Delayed σ p o u c e = never_lost B Delayed refl u e
  obeys-kept Fair σ p o u c e = never_lost B Fair refl u e

  unmet : {m : Mode} {σ : Choices} {p u : Position} (c : Walks B m σ p u) → Meets (λ w. ⊥) c → ⊥
  unmet (here e) t = t
  unmet (onward c s) (inl t) = unmet c t
  unmet (onward c s) (inr t) = t

  pub obeys_returning : (m : Mode) (σ : Choices) (p : Position) → Obeys B m σ p → Returning B m σ p (Trigger B m) (Relief B m)
  obeys_returning Ordinary σ p o = λ u w c l t. absurd (unmet c t)
  obeys_returning Direct σ p o = λ u w c l t. absurd (unmet c t)
  obeys_returning Delayed σ p o = o
  obeys_returning Fair σ p o = o
