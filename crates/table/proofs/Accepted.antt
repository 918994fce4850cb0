-- When each call is accepted, and that a refused one leaves the table as it was.
use mathlib.Core.Path.{◌≡◌, refl, ◌∙◌}
use mathlib.Core.Logic.Iff
use mathlib.Core.Logic.{◌≢◌, ◌↔◌}
use mathlib.Core.Bool.{Bool, true, false, cond}
use mathlib.Core.List.{List, [], ◌∷◌}
use Prim.Native.Nat.{ℕ, ◌≤◌, ◌<◌}
use native.Mathlib.Decide.{dec_lt}
use native.Mathlib.Omega.{arith}
use lib.Dec.{ltb}
use lib.ListN.{length, get_or-eq_default}
use borrow.Author.Tests.{ltb-false, le-ltb, leb-false, lt-leb}
use Rattle.games.specs.Game.{Game, at}
use Rattle.games.specs.Lift.{lift, rise, cleared, Capped}
use Rattle.games.specs.Settle.{settle}
use Rattle.automaton.specs.declared.Refusal.TheVariants.{AboveCeiling, PositionNumber}
use Rattle.automaton.specs.Answer.{accepted, valued, placed, refused, first_fault}
use Rattle.automaton.proofs.Fault.{Line, fails-line, fails_at-line, ◌then◌, end, table-line, unless-number}
use Rattle.arena.specs.Job.{Job, game_of}
use Rattle.arena.specs.Refusals.{open_fault, Fitting}
use Rattle.automaton.specs.Effect.{Refuses}
use Rattle.automaton.proofs.Effects.{unless_also, always, alone, does-number, does-refuse}
use Rattle.table.proofs.Effects.{lifted_in, lifted-out}
use Rattle.entries.specs.Found.{above}
use Rattle.table.specs.Calls.{entry_fault, position_fault, clearing, lifted, lifting, rest_at, rested, resting, settling}
use Rattle.arena.proofs.Open.{open_line}
use Rattle.arena.proofs.Opening.{opening-does}

-- ---- the lines 10 and 11

-- an entry out of range is 0
capped-all : (g : Game) (t : List ℕ) → ((v : ℕ) → v < length t → at t v ≤ g.T) ↔ Capped g t
capped-all g t = (λ h v. go h v (dec_lt v (length t)), λ h v l. h v)
  where
    go : ((v : ℕ) → v < length t → at t v ≤ g.T) → (v : ℕ) → Dec (v < length t) → at t v ≤ g.T
    go h v (yes l) = h v l
    go h v (no l) = omega (arith, get_or-eq_default t 0 {n = v} (omega arith))

pub entry-line : (g : Game) (t : List ℕ) → Line (entry_fault g t) (Capped g t)
entry-line g t =
    fails_at-line AboveCeiling (above g.T t) _ (length t)
    (Iff.trans (λ a v l. ltb-false g.T (at t v) (a v l), λ a v l. le-ltb g.T (at t v) (a v l)) (capped-all g t))

pub position-line : (g : Game) (v : ℕ) → Line (position_fault g v) (v < g.P)
position-line g v = fails-line _ _ PositionNumber (leb-false g.P v, lt-leb g.P v)

-- ---- accepted

pub clear-accepted : (j : Job) (t : List ℕ) → ((clearing j t).answer.number ≡ 0) ↔ Fitting j t
unfolding clearing
clear-accepted j t = Iff.trans (does-number (open_fault j (length t)) t _ _ _ (open_line j t) (always accepted refl)) alone

pub settle-accepted : (j : Job) (t : List ℕ) → ((settling j t).answer.number ≡ 0) ↔ Fitting j t
unfolding settling
settle-accepted j t = Iff.trans (does-number (open_fault j (length t)) t _ _ _ (open_line j t) (always (valued (settle (game_of j)).raised) refl)) alone

pub lift-accepted : (j : Job) (t : List ℕ) (v : ℕ) → ((lifting j t v).answer.number ≡ 0) ↔ (Fitting j t × (Capped (game_of j) t × (v < (game_of j).P)))
unfolding lifting lifted
lift-accepted j t v = does-number (open_fault j (length t)) t _ _ _ (open_line j t) inner
  where
    inner : ((lifted (game_of j) t v).answer.number ≡ 0) ↔ (Capped (game_of j) t × (v < (game_of j).P))
    inner =
        Iff.trans (does-number (first_fault (entry_fault (game_of j) t ∷ position_fault (game_of j) v ∷ [])) t _ _ _ (table-line (entry-line (game_of j) t then position-line (game_of j) v then end)) (always (valued (rise (game_of j) t v)) refl))
        (λ h. (h.0.0, h.0.1.0), λ h. ((h.0, (h.1, tt)), tt))

pub rest-number : (P w : ℕ) → (rest_at P w).number ≡ 0
rest-number P w = go (ltb w P)
  where
    go : (b : Bool) → (cond b (placed w) (valued 1)).number ≡ 0
    go true = refl
    go false = refl

pub rest-accepted : (j : Job) (t : List ℕ) → ((resting j t).number ≡ 0) ↔ (Fitting j t × Capped (game_of j) t)
unfolding resting rested
rest-accepted j t =
    unless_also (open_fault j (length t)) (rested (game_of j) t) _ _ (open_line j t)
    (Iff.trans (unless-number (entry_fault (game_of j) t) (rest_at (game_of j).P _) (rest-number (game_of j).P _)) (entry-line (game_of j) t))

-- ---- what an accepted call does

pub clear-does : (j : Job) (t : List ℕ) → Fitting j t → clearing j t ≡ record { answer = accepted; left = cleared (game_of j) }
unfolding clearing
clear-does j t f = opening-does j t t (record { answer = accepted; left = cleared (game_of j) }) f

pub settle-does : (j : Job) (t : List ℕ) → Fitting j t → settling j t ≡ record { answer = valued (settle (game_of j)).raised; left = (settle (game_of j)).table }
unfolding settling
settle-does j t f = opening-does j t t (record { answer = valued (settle (game_of j)).raised; left = (settle (game_of j)).table }) f

module _ (j : Job) (t : List ℕ) (v : ℕ) (f : Fitting j t) (c : Capped (game_of j) t) where
  pub lift-does : v < (game_of j).P → lifting j t v ≡ record { answer = valued (rise (game_of j) t v); left = lift (game_of j) t v }
  unfolding lifting
  lift-does h = opening-does j t t (lifted (game_of j) t v) f ∙ lifted_in (game_of j) t v ((entry-line (game_of j) t).1 c) h

  -- beyond the positions there is nothing to lift
  pub lift-beyond : (game_of j).P ≤ v → lifting j t v ≡ record { answer = refused PositionNumber; left = t }
  unfolding lifting
  lift-beyond h = opening-does j t t (lifted (game_of j) t v) f ∙ lifted-out (game_of j) t v ((entry-line (game_of j) t).1 c) h

-- ---- refused

pub clear-refused : (j : Job) (t : List ℕ) → (clearing j t).answer.number ≢ 0 → Refuses t (clearing j t)
unfolding clearing
clear-refused j t = does-refuse (open_fault j (length t)) t _ (λ n. absurd (n refl))

pub settle-refused : (j : Job) (t : List ℕ) → (settling j t).answer.number ≢ 0 → Refuses t (settling j t)
unfolding settling
settle-refused j t = does-refuse (open_fault j (length t)) t _ (λ n. absurd (n refl))

pub lift-refused : (j : Job) (t : List ℕ) (v : ℕ) → (lifting j t v).answer.number ≢ 0 → Refuses t (lifting j t v)
unfolding lifting lifted
lift-refused j t v =
    does-refuse (open_fault j (length t)) t _
    (does-refuse (first_fault (entry_fault (game_of j) t ∷ position_fault (game_of j) v ∷ [])) t _ (λ n. absurd (n refl)))
