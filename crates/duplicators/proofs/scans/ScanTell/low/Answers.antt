-- Telling by a scan: `low` is what (b,q,r,a) asks for, or neither is more than its entry.
use Rattle.std.proofs.Common.{arith}
use lib.Arith.{digits_lt}
use Rattle.arena.specs.Game.{board}
use Rattle.duplicators.specs.Rows.{seen_in}
use Rattle.duplicators.proofs.Asking.{low-past, seen_same}
use Rattle.duplicators.proofs.Bounds.{entry-within}
use Rattle.duplicators.proofs.scans.ScanTell.low.Goals as goal

pub bounds-table-place : goal.bounds-table-place
bounds-table-place c = (entry-within c.args.game.now c.args.table.now c.args.w c.requires.ready c.requires.rowed c.args.r c.args.a c.requires.in_range.0 c.requires.in_range.1 _ c.place.ensures).0

pub bounds-self-r : goal.bounds-self-r
bounds-self-r c = omega (arith, digits_lt c.requires.in_range.0 c.requires.in_range.1, c.requires.can_tell.1.room)

pub returns : goal.returns
returns c =
    let B = board c.args.game.now in
    let m = c.args.game.now.arena.mode in
    let F = c.requires.ready.formed in
    let o = c.requires.rowed in
    low-past B m F c.args.table.now c.args.w.b c.args.w.q c.args.r c.args.a o.bit o.red c.requires.in_range.0 c.requires.in_range.1
    c.args.self.now.onto.now c.requires.can_tell.1 (seen_in c.args.self.now.acc c.args.table.now c.args.w) (seen_same B m F c.args.w o c.args.self.now.acc c.requires.can_tell.0 c.args.table.now)
    (rw (c.place.ensures, c.requires.ready.topped) at c.low_scan.ensures)
