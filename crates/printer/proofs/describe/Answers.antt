-- `describe` meets its contract: `positions` answers P, which is at most 4,608, so there is room for the table.
use Rattle.std.proofs.Common.{List, length-take-le, replicate, ◌≡◌, ◌∙◌, Ok, Result, ℕ, ap, arith, sym}
use Rattle.automaton.specs.Answer.{answered, valued, value}
use Rattle.automaton.specs.declared.Automaton.{Automaton}
use Rattle.automaton.specs.declared.Refusal.{Refusal}
use Rattle.arena.specs.Job.{game_of, job_of}
use Rattle.arena.specs.Refusals.{sizing}
use Rattle.printer.specs.Small.{Small}
use Rattle.printer.proofs.Within.{few-positions, sizes}
use Rattle.printer.proofs.describe.Goals as goal

-- the number of entries that `positions` answers
counted : (a : Automaton) (marks moves : List ℕ) (mode : ℕ) → Small (job_of a marks moves mode) → (r : Result ℕ Refusal) (n : ℕ) → answered valued r ≡ sizing a mode → r ≡ Ok n → n ≡ (game_of (job_of a marks moves mode)).P
counted a marks moves mode s r n e o = ap value (sym (ap (answered valued) o) ∙ e ∙ sizes a marks moves mode s)

pub slice_bounds-table-end : goal.slice_bounds-table-end
slice_bounds-table-end c =
    let j = c.job.inside in
    let small = rw (← c.job.view_is) at c.requires in
    let entries = counted j.automaton j.marks.now j.moves.now j.mode small c.positions.result c.unwrap-entries.result c.positions.ensures c.unwrap-entries.ensures in
    omega (arith, entries, few-positions _ small)

pub slice_bounds-describe_on-end : goal.slice_bounds-describe_on-end
slice_bounds-describe_on-end c =
    let j = c.job.inside in
    let small = rw (← c.job.view_is) at c.requires in
    let entries = counted j.automaton j.marks.now j.moves.now j.mode small c.positions.result c.unwrap-entries.result c.positions.ensures c.unwrap-entries.ensures in
    let table : List ℕ = replicate 4608 0 in
    sym (length-take-le c.unwrap-entries.result table (omega (arith, entries, few-positions _ small)))
