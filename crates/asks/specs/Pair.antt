-- The parts of a pair's positions.
-- Functions below the calls promise it to each other; no public promise cites it.
use Rattle.std.specs.Prelude.{ℕ, ◌/◌, ◌%◌, ◌<◌}
use Rattle.simulation.specs.Position.{layers}
use Rattle.arena.specs.declared.Arena.{Arena}
use Rattle.asks.specs.declared.pair.Pair.{Pair}

-- the bit and the states of a pair are those of an arena
abbrev pub Within : Arena → Pair → Type 0
Within g p = (p.bit < layers g.mode) × (p.red < g.states) × (p.blue < g.states)

-- the pair of Spoiler's position with this number, where there are n states
abbrev pub numbered : (n : ℕ) → ℕ → Pair
numbered n v = record { bit = v / n / n; red = v / n % n; blue = v % n }
