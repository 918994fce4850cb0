-- `entries::lift` meets its contract: the entry is written exactly if what the position asks for is greater.
use Rattle.std.proofs.Common.{arith}
use Rattle.games.specs.Game.{Game}
use Rattle.games.proofs.Sweeping.{lift-rose, lift_stayed}
use Rattle.arena.specs.Game.{played}
use Rattle.entries.proofs.lift.Goals as goal

pub returns-then-table-v : goal.returns-then-table-v
returns-then-table-v c =
    let game : Game = played c.args.index.now.game in
    let both = lift-rose game c.args.table.now c.args.v c.asked-value.result c.asked-value.ensures c.requires.v_in_bounds (omega (arith, c.if-table-v.true)) in
    record { value = both.0; table_after = both.1 }

pub returns : goal.returns
returns c =
    let game : Game = played c.args.index.now.game in
    let both = lift_stayed game c.args.table.now c.args.v c.asked-value.result c.asked-value.ensures (omega (arith, c.if-table-v.false)) in
    record { value = both.0; table_after = both.1 }
