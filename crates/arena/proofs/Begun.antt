-- Pair i, of the states i / n and i % n, begins at the entry that lies i past those of the bit that its states owe.
use mathlib.Core.Path.{◌≡◌, ap}
use mathlib.Core.List.{List}
use Prim.Native.Nat.{ℕ, zero, suc, ◌+◌, ◌*◌, ◌/◌, ◌%◌, ◌<◌}
use native.Mathlib.Nat.{div-lt_iff_lt-mul, mod-lt, div-add-mod'}
use native.Mathlib.Omega.{arith}
use lib.ListN.{length}
use Rattle.games.specs.Game.{at}
use Rattle.automaton.specs.Board.{accepts}
use Rattle.simulation.specs.Position.{layers, pair, number}
use Rattle.simulation.specs.Rules.{owed, beginning}
use Rattle.simulation.proofs.Turns.{owed_lt}
use Rattle.arena.specs.declared.Arena.{Arena}
use Rattle.arena.specs.Seats.{bare, Seated}
use Rattle.arena.proofs.Seats.{seat_small, seat_lt}

-- where there is a pair there is a state
some-state : (n i : ℕ) → i < n * n → 0 < n
some-state zero i h = absurd (omega arith)
some-state (suc n) i h = omega arith

module _ (n i : ℕ) (h : i < n * n) where
  pub states-some : 0 < n
  states-some = some-state n i h

  pub red_lt : i / n < n
  red_lt = (div-lt_iff_lt-mul states-some).1 h

  pub blue_lt : i % n < n
  blue_lt = mod-lt i states-some

-- the bit that its two states owe
abbrev owed_by : Arena → (marks : List ℕ) → (i : ℕ) → ℕ
owed_by g marks i = owed g.mode (accepts (bare g marks) (i / g.states)) (accepts (bare g marks) (i % g.states))

module _ (g : Arena) (marks t : List ℕ) (S : Seated g marks t) (i : ℕ) (h : i < g.states * g.states) (b : ℕ) (e : b ≡ owed_by g marks i) where
  bit_lt : b < layers g.mode
  bit_lt = omega (arith, owed_lt g.mode (accepts (bare g marks) (i / g.states)) (accepts (bare g marks) (i % g.states)))

  -- the number of the beginning, as the code adds it up
  index_is : b * (g.states * g.states) + i ≡ pair (bare g marks) b (i / g.states) (i % g.states)
  index_is = omega (arith, div-add-mod' i g.states)

  pub begun_small : b * (g.states * g.states) + i < 8192
  begun_small = omega (arith, index_is, seat_small g marks t S b (i / g.states) (i % g.states) bit_lt (red_lt g.states i h) (blue_lt g.states i h))

  pub begun_lt : b * (g.states * g.states) + i < length t
  begun_lt = omega (arith, index_is, seat_lt g marks t S b (i / g.states) (i % g.states) bit_lt (red_lt g.states i h) (blue_lt g.states i h))

  pub begun-at : at t (b * (g.states * g.states) + i) ≡ at t (number (bare g marks) g.mode (beginning (bare g marks) g.mode (i / g.states) (i % g.states)))
  begun-at = ap (at t) (omega (arith, ap (λ (x : ℕ). x * (g.states * g.states)) e, div-add-mod' i g.states))
