-- `duplicators::raising::raise` meets its contract: the entry is written, marked and counted exactly if it is less than e.
use Rattle.std.proofs.Common.{arith}
use Rattle.arena.specs.Game.{board}
use Rattle.duplicators.specs.Growing.{growing}
use Rattle.duplicators.proofs.Bounds.{entry-within}
use Rattle.duplicators.proofs.Raised.{raised, unraised}
use Rattle.duplicators.proofs.raising.raise.Goals as goal

pub offset_bounds-table-i : goal.offset_bounds-table-i
offset_bounds-table-i c =
    let o = c.requires.working in
    let within = entry-within c.args.game.now c.args.table.now c.args.w o.ready o.rowed c.args.r c.args.a c.requires.in_range.0 c.requires.in_range.1 _ c.place-i.ensures in
    omega (arith, within.0, within.1)

pub bounds-table-i : goal.bounds-table-i
bounds-table-i c =
    let o = c.requires.working in
    (entry-within c.args.game.now c.args.table.now c.args.w o.ready o.rowed c.args.r c.args.a c.requires.in_range.0 c.requires.in_range.1 _ c.place-i.ensures).0

pub offset_bounds-table-i-then-table-i : goal.offset_bounds-table-i-then-table-i
offset_bounds-table-i-then-table-i c =
    let o = c.requires.working in
    let within = entry-within c.args.game.now c.args.table.now c.args.w o.ready o.rowed c.args.r c.args.a c.requires.in_range.0 c.requires.in_range.1 _ c.place-i.ensures in
    omega (arith, within.0, within.1)

pub bounds-table-i-then-table-i : goal.bounds-table-i-then-table-i
bounds-table-i-then-table-i c =
    let o = c.requires.working in
    (entry-within c.args.game.now c.args.table.now c.args.w o.ready o.rowed c.args.r c.args.a c.requires.in_range.0 c.requires.in_range.1 _ c.place-i.ensures).0

pub returns-then-table-i : goal.returns-then-table-i
returns-then-table-i c =
    let o = c.requires.working in
    let both = raised (board c.args.game.now) c.args.game.now.arena.mode o.ready.formed (growing c.args.table.now c.args.grown.now c.args.columns.now) c.args.w.b c.args.w.q c.args.r c.args.a c.args.e c.place-i.result
    o.rowed.bit o.rowed.red c.requires.in_range.0 c.requires.in_range.1 o.ready.entries c.place-i.ensures c.requires.asks c.if-table-i.true c.mark.ensures in
    record { answered_in = both.0; still = both.1 }

pub returns : goal.returns
returns c =
    let o = c.requires.working in
    let both = unraised (board c.args.game.now) c.args.game.now.arena.mode o.ready.formed (growing c.args.table.now c.args.grown.now c.args.columns.now) c.args.w.b c.args.w.q c.args.r c.args.a c.args.e c.place-i.result
    o.rowed.bit o.rowed.red c.requires.in_range.0 c.requires.in_range.1 o.ready.entries c.place-i.ensures c.requires.asks (omega (arith, c.if-table-i.false)) in
    record { answered_in = both.0; still = both.1 }
