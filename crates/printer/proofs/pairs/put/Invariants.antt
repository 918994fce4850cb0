-- `pairs::put` meets its contract: the lines of the pairs left, put from here on, end and lie where all of them do.
use Rattle.std.proofs.Common.{List, ℕ, ◌-◌, ◌*◌}
use Rattle.arena.specs.declared.Arena.{Arena}
use Rattle.arena.specs.Seats.{bare}
use Rattle.printer.specs.Printed.{pair_lines_from}
use Rattle.printer.proofs.Left.{Left}
use Rattle.printer.proofs.pairs.put.Given as goal

abbrev pub lines : Arena → (marks table : List ℕ) → (i : ℕ) → List ℕ
lines g marks t i = pair_lines_from (bare g marks) g.mode t i (g.states * g.states - i)

abbrev pub invariant-loop-i : goal.invariant-loop-i
invariant-loop-i l = Left l.at (pair_lines_from (bare l.seats.arena l.seats.marks.now) l.seats.arena.mode l.seats.table.now 0 (l.seats.arena.states * l.seats.arena.states)) l.initial.out l.to (lines l.seats.arena l.seats.marks.now l.seats.table.now l.i) l.out
