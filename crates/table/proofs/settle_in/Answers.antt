-- `table::settle_in` meets its contract: the table that is settled is the cleared one.
use mathlib.Core.Path.{ap, ◌∙◌}
use Prim.Native.Nat.{ℕ}
use native.Mathlib.Omega.{arith}
use lib.ListN.{length, replicate, length-replicate}
use Rattle.simulation.proofs.Position.{positions_are}
use Rattle.arena.specs.Game.{board}
use Rattle.arena.proofs.Open.{ready-again}
use Rattle.table.proofs.settle_in.Goals as goal

pub clear-requires : goal.clear-requires
clear-requires c = omega (arith, c.requires.paired, c.requires.entries, positions_are (board c.args.game.now) c.args.game.now.arena.mode)

pub settle-requires : goal.settle-requires
settle-requires c =
    let g = c.args.game.now in
    record {
      ready = ready-again g.arena g.marks.now g.moves.now c.args.table.now c.clear.new.table c.requires (ap length c.clear.ensures ∙ length-replicate _ 0);
      table_value = c.clear.ensures ∙ ap (λ (n : ℕ). replicate n 0) c.requires.entries;
    }
