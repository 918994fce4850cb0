-- The arena in which a quotient is formed, or why there is none. The functions of this crate promise it to each other; no public promise cites it.
use Rattle.std.specs.Prelude.{ℕ, Result}
use Rattle.automaton.specs.declared.Refusal.{Refusal}
use Rattle.arena.specs.declared.Arena.{Arena}
use Rattle.arena.specs.Arena.{arena_of, opened_by}
use Rattle.arena.specs.Job.{Job, mode_of}
use Rattle.quotient.specs.Calls.{admit_fault}

unfoldable pub admitted : Job → (entries : ℕ) → Result Arena Refusal
admitted j entries = opened_by (admit_fault j entries) (arena_of j.board (mode_of j.mode))
