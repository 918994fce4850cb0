-- The arguments and the result of an exported function, in the words of the calls' promises.
use Rattle.std.specs.Prelude.{List, [], ◌∷◌, ℕ}
use Rattle.automaton.specs.declared.Automaton.{Automaton}
use Rattle.automaton.specs.Answer as answers
use Rattle.arena.specs.Job.{Job, job_of}
use Rattle.capi.specs.declared.Answer.{Answer}

-- the answer that a returned struct gives: its number, its place and its three values
abbrev pub given : Answer → answers.Answer
given r = record { number = r.number; place = r.place; values = r.value }

-- the answer with these five numbers
abbrev pub told : (number place x y z : ℕ) → answers.Answer
told number place x y z = record { number = number; place = place; values = x ∷ y ∷ z ∷ [] }

-- the automaton's record of the arguments n, k and start
abbrev pub automaton_of : (n k start : ℕ) → Automaton
automaton_of n k start = record { states = n; letters = k; start = start }

-- the job of check's arguments and a mode
abbrev pub job_by : (n k start : ℕ) → (accept moves : List ℕ) → (mode : ℕ) → Job
job_by n k start accept moves mode = job_of (automaton_of n k start) accept moves mode
