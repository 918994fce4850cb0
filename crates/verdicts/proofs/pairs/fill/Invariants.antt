-- `verdicts::pairs::fill` meets its contract: the bytes below i are written, the others are as they were, and the ones below i are counted.
use Rattle.std.proofs.Common.{◌≡◌, List, ◌++◌, map, ℕ, drop}
use Rattle.games.specs.Play.{count}
use Rattle.games.specs.Settle.{ascending}
use Rattle.simulation.specs.Answers.{byte_at}
use Rattle.arena.specs.declared.Arena.{Arena}
use Rattle.arena.specs.Seats.{bare}
use Rattle.verdicts.proofs.pairs.fill.Given as goal

abbrev pub byte : Arena → (marks table : List ℕ) → ℕ → ℕ
byte g marks t i = byte_at (bare g marks) g.mode t i

abbrev pub invariant-loop-i : goal.invariant-loop-i
invariant-loop-i l =
    (l.out ≡ map (byte l.seats.arena l.seats.marks.now l.seats.table.now) (ascending 0 l.i) ++ drop l.i l.initial.out) × (l.ones ≡ count (byte l.seats.arena l.seats.marks.now l.seats.table.now) l.i)
