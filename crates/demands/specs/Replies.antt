-- "replies from any table at rest", for demand 2.
use Rattle.std.specs.Prelude.{◌≡◌, List, ℕ}
use Rattle.automaton.specs.Answer.{valued}
use Rattle.automaton.specs.Board.{Board}
use Rattle.simulation.specs.Position.{duplicator, number, Fits}
use Rattle.simulation.specs.Won.{Choices}
use Rattle.arena.specs.Job.{Job, mode_of}
use Rattle.relation.specs.Calls.{replying}

-- an automaton and the number of a mode
abbrev pub job_in : Board → (start mode : ℕ) → Job
job_in B start mode = record { board = B; start = start; mode = mode }

-- wherever the call `reply` answers with a state, σ takes it
abbrev pub TakesReplies : Job → (table : List ℕ) → Choices → Type 0
TakesReplies j t σ =
    (b q r a : ℕ) → let B = j.board in let m = mode_of j.mode in
    Fits B m (duplicator b q r a) → (s : ℕ) → replying j t (number B m (duplicator b q r a)) ≡ valued s → σ b q r a ≡ s
