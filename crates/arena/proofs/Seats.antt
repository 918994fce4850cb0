-- Where an arena fits the lent bytes, pairs can be read off the table.
use mathlib.Core.Path.{◌≡◌, ap, ◌∙◌}
use mathlib.Core.List.{List, []}
use Prim.Native.Nat.{ℕ, ◌*◌, ◌≤◌, ◌<◌}
use native.Mathlib.Nat.{mul-le-mul}
use native.Mathlib.Omega.{arith}
use lib.Dec.{ltb}
use lib.ListN.{length}
use Rattle.games.specs.Game.{at}
use Rattle.automaton.specs.declared.Mode.{Mode}
use Rattle.simulation.specs.Answers.{below}
use Rattle.simulation.specs.Position.{layers, pairs, pair, number}
use Rattle.simulation.specs.Rules.{beginning}
use Rattle.simulation.proofs.Limits.{pairs-most}
use Rattle.simulation.proofs.Position.{positions_are, pair_lt}
use Rattle.arena.specs.declared.Arena.{Arena}
use Rattle.arena.specs.Arena.{board_in, Ready}
use Rattle.arena.specs.Seats.{bare, Seated}
use Rattle.arena.proofs.Open.{ceiling-moves}

pub seated : (g : Arena) (marks moves t : List ℕ) → Ready g marks moves t → Seated g marks t
seated g marks moves t R = record {
  few = R.formed.few;
  marked = R.formed.marked;
  topped = R.topped ∙ ceiling-moves g.states g.letters marks moves [] g.mode;
  seats = omega (arith, R.entries, positions_are (board_in g marks moves) g.mode);
}

-- a pair is below T or not whatever the moves
pub bare-below : (g : Arena) (marks moves t : List ℕ) (m : Mode) → below (bare g marks) m t ≡ below (board_in g marks moves) m t
bare-below g marks moves t m =
    ap (λ (T : ℕ). λ (q r : ℕ). ltb (at t (number (bare g marks) m (beginning (bare g marks) m q r))) T) (ceiling-moves g.states g.letters marks [] moves m)

-- ---- the entries of Spoiler's positions

module _ (g : Arena) (marks t : List ℕ) (S : Seated g marks t) where
  pub square_most : g.states * g.states ≤ 4096
  square_most = mul-le-mul {n₂ = 64} {m₂ = 64} S.few S.few

  module _ (b q r : ℕ) (h : b < layers g.mode) (i : q < g.states) (l : r < g.states) where
    seat_in : pair (bare g marks) b q r < pairs (bare g marks) g.mode
    seat_in = pair_lt (bare g marks) (layers g.mode) h i l

    -- the number of such a position is small, and it has an entry
    pub seat_small : pair (bare g marks) b q r < 8192
    seat_small = omega (arith, seat_in, pairs-most (bare g marks) g.mode S.few)

    pub seat_lt : pair (bare g marks) b q r < length t
    seat_lt = omega (arith, seat_in, S.seats)
