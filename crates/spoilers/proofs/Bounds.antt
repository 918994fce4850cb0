-- Products of numbers within the limits: what positions are counted by is small.
use Rattle.std.proofs.Common.{ℕ, ◌+◌, ◌*◌, ◌≤◌, ◌<◌, mul-le-mul, arith, length}
use lib.Arith.{digits_lt}
use Rattle.automaton.specs.declared.Mode.{Mode}
use Rattle.automaton.specs.Board.{Board, accepts, Formed}
use Rattle.automaton.specs.Limits.{most_letters, most_states}
use Rattle.simulation.specs.Position.{layers, positions}
use Rattle.simulation.specs.Rules.{pended}
use Rattle.simulation.proofs.Inward.{pended_lt}
use Rattle.simulation.proofs.Limits.{layers-most, positions-most}
use Rattle.simulation.proofs.Position.{positions_are}
use Rattle.arena.specs.declared.Arena.{Arena}
use Rattle.arena.specs.declared.game.Game.{Game}
use Rattle.arena.specs.Game.{board}
use Rattle.halves.specs.Rising.{Rising}
use Rattle.halves.specs.Half.{challenged}
use Rattle.halves.proofs.Places.{pair_row, pair-below, duplicator-within, row_below}
use Rattle.spoilers.specs.Work.{Raising}

module _ (B : Board) (m : Mode) (F : Formed B) where
  pub bit-row-most : (b : ℕ) → b < layers m → b * B.n ≤ 64
  bit-row-most b h = mul-le-mul {n₂ = 1} {m₂ = 64} (omega (arith, layers-most m)) F.few

  -- the entry that a move of Red's to x by a leads to is in the table
  pub challenged-within : (b r x a : ℕ) → b < layers m → r < B.n → x < B.n → a < B.k → challenged B m b r x a < positions B m
  challenged-within b r x a hb hr hx ha = (duplicator-within B m F (pended m (accepts B x) b) x r a (pended_lt m (accepts B x) b hb) hx hr ha).1

  pub challenged_small : (b r x a : ℕ) → b < layers m → r < B.n → x < B.n → a < B.k → challenged B m b r x a < 139264
  challenged_small b r x a hb hr hx ha = omega (arith, challenged-within b r x a hb hr hx ha, positions-most B F m)

-- the word of the moves to x by a
pub into_small : (n k x a : ℕ) → n ≤ most_states → k ≤ most_letters → x < n → a < k → (x * k + a < n * k) × (n * k ≤ 1024)
into_small n k x a few few_letters hx ha = (digits_lt hx ha, mul-le-mul {n₂ = 64} {m₂ = 16} few few_letters)

-- the entry of Spoiler's (b,q,r) is in the table, there are words for its row and for b, and their numbers are small
pub record Placed (g : Arena) (s : Rising) (b q r : ℕ) : Type 0 where
  pub entry : (b * g.states + q) * g.states + r < length s.table
  pub small : (b * g.states + q) * g.states + r < 139264
  pub row : b * g.states ≤ 64
  pub states : g.states ≤ 64
  pub risen : b * g.states + q < length s.risen
  pub olds : b * g.states + q < length s.olds
  pub rows : b < length s.rows

pub placed : (g : Game) (s : Rising) → Raising g s → (b q r : ℕ) → b < layers g.arena.mode → q < g.arena.states → r < g.arena.states
    → Placed g.arena s b q r
placed g s w b q r hb hq hr = record {
  entry = within;
  small = omega (arith, within, w.ready.entries, positions-most B F g.arena.mode);
  row = bit-row-most B g.arena.mode F b hb;
  states = F.few;
  risen = omega (arith, row, w.roomy.risen);
  olds = omega (arith, row, w.roomy.olds);
  rows = omega (arith, w.roomy.rows);
}
  where
    B : Board
    B = board g

    F : Formed B
    F = w.ready.formed

    row : b * g.arena.states + q < layers g.arena.mode * g.arena.states
    row = row_below B g.arena.mode F b q hb hq

    within : (b * g.arena.states + q) * g.arena.states + r < length s.table
    within = rw (← (pair_row B b q r)) (omega (arith, pair-below B g.arena.mode F b q r hb hq hr, positions_are B g.arena.mode, w.ready.entries))
