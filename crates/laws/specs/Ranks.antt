-- The composed rank of two pairs (q,r) and (r,s), by their bits and ranks alone.
-- The laws are proved with it; no promise cites it.
use Rattle.std.specs.Prelude.{ℕ, zero, suc, ◌+◌, ◌*◌}
use Rattle.automaton.specs.declared.Mode.{Mode}
use Rattle.automaton.specs.declared.Mode.TheVariants.{Ordinary, Direct, Delayed, Fair}

-- b and d are the bits of (q,s) and (r,s); i and j, both below N, are the ranks of (q,r) and (r,s).
-- In mode 2 r has yet to accept while nothing is pending at (r,s), and the rank is that of (q,r) on top of N; then it is that of (r,s), below N.
-- In mode 3 the rank of (q,r) may rise where r accepts, and there that of (r,s) falls: it weighs N times as much.
abbrev pub composed : Mode → (N b d i j : ℕ) → ℕ
composed Ordinary N b d i j = 0
composed Direct N b d i j = 0
composed Delayed N zero d i j = 0
composed Delayed N (suc b) zero i j = N + i
composed Delayed N (suc b) (suc d) i j = j
composed Fair N b d i j = j * N + i
