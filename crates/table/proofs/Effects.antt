-- What lift and rest do in an arena, by whether an entry is above T.
use Rattle.std.proofs.Common.{◌≡◌, refl, List, ℕ, ◌≤◌, ◌<◌, le-leb, Bool, true, false, cond, ltb, Some, None}
use Rattle.std.proofs.lemmas.Bool.{lt-leb}
use Rattle.games.specs.Game.{Game}
use Rattle.games.specs.Lift.{lift, rise}
use Rattle.automaton.specs.declared.Refusal.{Refusal}
use Rattle.automaton.specs.declared.Refusal.TheVariants.{PositionNumber}
use Rattle.automaton.specs.Answer.{valued, placed, refused, none, fault}
use Rattle.automaton.specs.First.{first, first_below}
use Rattle.entries.specs.Found.{restless}
use Rattle.table.specs.Answers.{found}
use Rattle.table.specs.Calls.{entry_fault, lifted, rested}

module _ (g : Game) (t : List ℕ) where
  pub lifted-above : (r : Refusal) (v : ℕ) → entry_fault g t ≡ fault r → lifted g t v ≡ record { answer = refused r; left = t }
  unfolding lifted
  lifted-above r v e = simp e

  pub lifted-out : (v : ℕ) → entry_fault g t ≡ none → g.P ≤ v → lifted g t v ≡ record { answer = refused PositionNumber; left = t }
  unfolding lifted
  lifted-out v e o = simp (e, le-leb g.P v o)

  pub lifted_in : (v : ℕ) → entry_fault g t ≡ none → v < g.P → lifted g t v ≡ record { answer = valued (rise g t v); left = lift g t v }
  unfolding lifted
  lifted_in v e i = simp (e, lt-leb g.P v i)

  pub rested-above : (r : Refusal) → entry_fault g t ≡ fault r → rested g t ≡ refused r
  unfolding rested
  rested-above r e = simp e

  pub rested-found : entry_fault g t ≡ none → rested g t ≡ found (first_below (restless g t) g.P)
  unfolding rested
  rested-found e = simp e (go (ltb (first (restless g t) 0 g.P) g.P))
    where
      w : ℕ
      w = first (restless g t) 0 g.P

      go : (b : Bool) → cond b (placed w) (valued 1) ≡ found (cond b (Some w) None)
      go true = refl
      go false = refl
