-- The calls on automaton A in mode 2, computed: what each answers, which refusal comes first, and that the order of lifts shows.
use Rattle.std.specs.Prelude.{List, [], ◌∷◌, ℕ, replicate}
use Rattle.games.specs.Game.{at}
use Rattle.automaton.specs.declared.Refusal.TheVariants.{ModeNumber, TableLength, AboveCeiling, PositionNumber}
use Rattle.automaton.specs.Answer.{valued, placed, refused}
use Rattle.simulation.specs.Cases.{board_a, Case, number, answers}
use Rattle.arena.specs.Job.{Job}
use Rattle.arena.specs.Refusals.{topping}
use Rattle.table.specs.Calls.{lifting, resting, settling}

-- automaton A, started in 0, in the mode of this number: in mode 2 it has 16 positions and T is 3
abbrev pub job_a : (mode : ℕ) → Job
job_a mode = record { board = board_a; start = 0; mode = mode }

abbrev pub zeros : (entries : ℕ) → List ℕ
zeros entries = replicate entries 0

-- entry 3 is above T
abbrev pub too_high : List ℕ
too_high = 0 ∷ 0 ∷ 0 ∷ 4 ∷ zeros 12

-- the table after lifting u and then v from the cleared one
abbrev pub two_lifts : (u v : ℕ) → List ℕ
two_lifts u v = (lifting (job_a 2) (lifting (job_a 2) (zeros 16) u).left v).left

abbrev pub cases : List Case
cases =
    answers (topping (job_a 2)) (valued 3)
    -- "A, mode 2, cleared: lifts 15 then 6 leave entry 15 at 0; 6 then 15 make it 1."
    ∷ number (at (two_lifts 15 6) 15) 0
    ∷ number (at (two_lifts 6 15) 15) 1
    ∷ answers (lifting (job_a 2) (zeros 16) 15).answer (valued 0)
    ∷ answers (lifting (job_a 2) (zeros 16) 6).answer (valued 1)
    -- the cleared table is not at rest, and 4 is the lowest position that shows it; the settled one is
    ∷ answers (resting (job_a 2) (zeros 16)) (placed 4)
    ∷ answers (settling (job_a 2) (zeros 16)).answer (valued 4)
    ∷ answers (resting (job_a 2) (settling (job_a 2) (zeros 16)).left) (valued 1)
    -- "The lowest number that applies is given"
    ∷ answers (lifting (job_a 4) (zeros 15) 16).answer (refused ModeNumber)
    ∷ answers (lifting (job_a 2) (zeros 15) 16).answer (refused TableLength)
    ∷ answers (lifting (job_a 2) too_high 16).answer (refused (AboveCeiling 3))
    ∷ answers (lifting (job_a 2) (zeros 16) 16).answer (refused PositionNumber)
    ∷ answers (resting (job_a 2) too_high) (refused (AboveCeiling 3))
    ∷ []
