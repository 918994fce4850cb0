-- Numbers too large for a byte, or for four, in the arguments of automaton A: each is refused, as it stands.
use Rattle.std.specs.Prelude.{List, [], ◌∷◌, ◌+◌, ◌^◌}
use Rattle.automaton.specs.declared.Refusal.TheVariants.{States, Letters, Start, ModeNumber, PositionNumber}
use Rattle.automaton.specs.Answer.{refused, valued}
use Rattle.automaton.specs.Board.{board_of}
use Rattle.automaton.specs.Check.{checked}
use Rattle.simulation.specs.Cases.{board_a, Case, answers}
use Rattle.arena.specs.Refusals.{sizing, topping}
use Rattle.table.specs.Calls.{lifting}
use Rattle.table.specs.Cases.{zeros}
use Rattle.capi.specs.Exported.{automaton_of, job_by}

abbrev pub cases : List Case
cases =
    -- in four bytes 2⁴⁰ would be 0, which is a state
    answers (checked (board_of (automaton_of 2 1 (2 ^ 40)) board_a.marks board_a.moves) (2 ^ 40)) (refused Start)
    -- in one byte 256 would be 0, which is a mode
    ∷ answers (topping (job_by 2 1 0 board_a.marks board_a.moves 256)) (refused ModeNumber)
    ∷ answers (sizing (automaton_of 2 1 0) 256) (refused ModeNumber)
    ∷ answers (sizing (automaton_of (2 ^ 32 + 2) 1 0) 2) (refused States)
    ∷ answers (sizing (automaton_of 2 (2 ^ 32 + 1) 0) 2) (refused Letters)
    ∷ answers (sizing (automaton_of 2 1 0) 2) (valued 16)
    ∷ answers (lifting (job_by 2 1 0 board_a.marks board_a.moves 2) (zeros 16) (2 ^ 32 + 6)).answer (refused PositionNumber)
    ∷ []
