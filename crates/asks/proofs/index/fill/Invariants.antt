-- `asks::index::fill` meets its contract. The invariant: the entries below x are the places of their keys, and the moves before i have
-- keys below x.
use mathlib.Core.Path.{◌≡◌}
use Prim.Native.Nat.{ℕ, ◌/◌, ◌≤◌, ◌<◌}
use lib.ListN.{length, get_or}
use Rattle.asks.specs.Index.{key}
use Rattle.asks.proofs.Keys.{Begins}
use Rattle.asks.proofs.index.fill.Given as goal

abbrev pub invariant-loop-x : goal.invariant-loop-x
invariant-loop-x l = record {
  reached : l.i ≤ length l.moves / 3;
  places : length l.begins ≡ length l.initial.begins;
  under : (j : ℕ) → j < l.i → key l.letters l.moves j < l.x;
  begun : (y : ℕ) → y < l.x → Begins l.letters l.moves y (get_or l.begins y 0);
}
