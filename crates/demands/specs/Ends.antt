-- How a call ends, for demand 1. A call's effect is what it answers and what it leaves in the buffers lent to it.
use Rattle.std.specs.Prelude.{◌≡◌, ◌≢◌, ◌↔◌, List, ℕ, ◌≤◌, ◌<◌}
use Rattle.games.specs.Game.{asked, at}
use Rattle.automaton.specs.declared.Refusal.TheVariants.{NotAtRest}
use Rattle.automaton.specs.Answer.{Answer, placed, refused}
use Rattle.automaton.specs.Effect.{Effect, Refuses}
use Rattle.arena.specs.Job.{Job, game_of}
use Rattle.table.specs.Calls.{resting}
use Rattle.relation.specs.Calls.{relating, replying}

-- a call that is lent no buffer to write to
abbrev pub answering : Answer → Effect (Unit {0})
answering a = record { answer = a; left = tt }

-- It is accepted, with number 0, exactly if P holds. If not, it answers one of the numbered refusals with its place and values 0, and leaves what it was lent.
pub record Ends {X : Type 0} (lent : X) (e : Effect X) (P : Type 0) : Type 0 where
  pub accepted : (e.answer.number ≡ 0) ↔ P
  pub refused : e.answer.number ≢ 0 → Refuses lent e

-- a result of a call, and what it left, meet the promise; `of` gives the number, place and values of each case of the result
pub record Meets {R X : Type 0} (of : R → Answer) (e : Effect X) (result : R) (left : X) : Type 0 where
  pub answers : of result ≡ e.answer
  pub leaves : left ≡ e.left

-- any two that do are the same
abbrev pub One : {R X : Type 0} → (of : R → Answer) → Effect X → Type 0
One {R} {X} of e = (r s : R) (x y : X) → Meets of e r x → Meets of e s y → (r ≡ s) × (x ≡ y)

-- The table is not at rest, v is "the lowest position not at rest", `rest` names it, and the two calls that need rest refuse with it.
pub record TurnsAway (j : Job) (t : List ℕ) (v : ℕ) : Type 0 where
  pub inside : v < (game_of j).P
  pub restless : at t v < asked (game_of j) (at t) v
  pub lowest : (u : ℕ) → u < v → asked (game_of j) (at t) u ≤ at t u
  pub rest : resting j t ≡ placed v
  pub relation : (out : List ℕ) → relating j t out ≡ record { answer = refused (NotAtRest v); left = out }
  pub reply : (u : ℕ) → u < (game_of j).P → replying j t u ≡ refused (NotAtRest v)
