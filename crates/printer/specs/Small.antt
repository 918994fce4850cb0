-- What is described: an automaton and a mode that no program refuses.
-- The functions of this crate ask the calls above for it, and each other; no public promise cites it.
use Rattle.std.specs.Prelude.{◌≤◌}
use Rattle.arena.specs.Job.{Job}
use Rattle.arena.specs.Refusals.{Proper}
use Rattle.text.specs.Text.{program_states, program_letters}

abbrev pub Small : Job → Type 0
Small j = Proper j × ((j.board.n ≤ program_states) × (j.board.k ≤ program_letters))
