-- Within the limits of the programs: the numbers are small, and no call that the report is made of is refused.
use Rattle.std.proofs.Common.{Err, Ok, Result, ◌≡◌, refl, sym, ap, ◌∙◌, subst, List, [], ◌∷◌, ℕ, ◌*◌, ◌≤◌, mul-le-mul, length}
use Rattle.games.specs.Lift.{AtRest}
use Rattle.games.specs.Settle.{settle}
use Rattle.games.proofs.Settle.{settle-rest}
use Rattle.automaton.specs.declared.Automaton.{Automaton}
use Rattle.automaton.specs.declared.Refusal.{Refusal}
use Rattle.automaton.specs.Answer.{answered, valued, value, Fault, first_fault, unless}
use Rattle.automaton.specs.Check.{states_fault, letters_fault, mode_fault}
use Rattle.automaton.proofs.Fault.{found, unless-number}
use Rattle.automaton.proofs.One.{one-answered}
use Rattle.simulation.specs.Answers.{relation, related}
use Rattle.simulation.proofs.Limits.{size-within}
use Rattle.arena.specs.Arena.{opened}
use Rattle.arena.specs.Job.{Job, job_of, mode_of, game_of}
use Rattle.arena.specs.Refusals.{Fitting, sizing}
use Rattle.arena.proofs.Accepted.{positions-accepted}
use Rattle.arena.proofs.Open.{open_line, shut_fault}
use Rattle.relation.specs.Calls.{relating}
use Rattle.relation.proofs.Accepted.{relation-does}
use Rattle.printer.specs.Small.{Small}

-- an arena is opened for a table that fits
pub not_shut : (j : Job) (t : List ℕ) → Fitting j t → (r : Refusal) → opened j (length t) ≡ Err r → ⊥
not_shut j t f r o = found (sym (shut_fault j t r o) ∙ (open_line j t).1 f)

module _ (j : Job) (s : Small j) where
  pub few-pairs : j.board.n * j.board.n ≤ 256
  few-pairs = mul-le-mul {n₂ = 16} {m₂ = 16} s.1.0 s.1.0

  pub few-positions : (game_of j).P ≤ 4608
  few-positions = size-within j.board (mode_of j.mode) 16 8 s.1.0 s.1.1

  -- on the settled table
  module _ (t : List ℕ) (e : t ≡ (settle (game_of j)).table) where
    rests : AtRest (game_of j) t
    rests = subst (AtRest (game_of j)) (sym e) (settle-rest (game_of j))

    pub settled_fits : Fitting j t
    settled_fits = (s.0, rests.entries)

    pub settled_relates : (out : List ℕ) → length out ≡ j.board.n * j.board.n
        → relating j t out ≡ record { answer = valued (related j.board (mode_of j.mode) t); left = relation j.board (mode_of j.mode) t }
    settled_relates out l = relation-does j t out s.0 rests l

-- a result told as a value is that value
pub valued_ok : (r : Result ℕ Refusal) (n : ℕ) → answered valued r ≡ valued n → r ≡ Ok n
valued_ok r n e = one-answered valued (λ x. refl) (λ x y e. ap value e) r (Ok n) e

-- P, as `positions` answers it
pub sizes : (a : Automaton) (marks moves : List ℕ) (mode : ℕ) → Small (job_of a marks moves mode) → sizing a mode ≡ valued (game_of (job_of a marks moves mode)).P
sizes a marks moves mode s =
    let F = s.0.0 in
    let size = valued (game_of (job_of a marks moves mode)).P in
    let faults = first_fault (states_fault a.states ∷ letters_fault a.letters ∷ mode_fault mode ∷ []) in
    let number = (positions-accepted a mode).1 ((F.states, F.few), (F.letters, F.few_letters), s.0.2) in
    ap (λ (f : Fault). unless f size) ((unless-number faults size refl).0 number)
