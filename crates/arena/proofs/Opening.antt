-- What a call on a table does, by whether `for_table` opened an arena for it.
use mathlib.Core.Path.{◌≡◌, ap}
use mathlib.Core.List.{List}
use Rattle.std.proofs.Common.{ℕ, Ok, Err}
use lib.ListN.{length}
use Rattle.automaton.specs.declared.Refusal.{Refusal}
use Rattle.automaton.specs.Answer.{refused, Fault}
use Rattle.automaton.specs.Effect.{Effect, does}
use Rattle.arena.specs.declared.Arena.{Arena}
use Rattle.arena.specs.Arena.{opened}
use Rattle.arena.specs.Job.{Job}
use Rattle.arena.specs.Refusals.{Fitting, opening}
use Rattle.arena.proofs.Open.{shut_fault, open_faultless, open_line}

module _ {X : Type 0} (j : Job) (t : List ℕ) (x : X) (e : Effect X) where
  pub shut_effect : (r : Refusal) → opened j (length t) ≡ Err r → opening j (length t) x e ≡ record { answer = refused r; left = x }
  shut_effect r o = ap (λ (f : Fault). does f x e) (shut_fault j t r o)

  pub open_effect : (g : Arena) → opened j (length t) ≡ Ok g → opening j (length t) x e ≡ e
  open_effect g o = ap (λ (f : Fault). does f x e) (open_faultless j t g o)

  -- where none of the refusals 1 to 9 applies
  pub opening-does : Fitting j t → opening j (length t) x e ≡ e
  opening-does f = ap (λ (k : Fault). does k x e) ((open_line j t).1 f)
