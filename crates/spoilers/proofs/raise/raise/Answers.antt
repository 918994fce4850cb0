-- `spoilers::raise::raise` meets its contract: the entry has e already, or e is written and noted.
use Rattle.std.proofs.Common.{sym, arith}
use Rattle.arena.specs.Game.{board}
use Rattle.halves.specs.Rising.{rising}
use Rattle.halves.proofs.Places.{pair_row}
use Rattle.spoilers.proofs.Parts.{pushed_none}
use Rattle.spoilers.proofs.Events.{raise_event}
use Rattle.spoilers.proofs.Bounds.{Placed, placed}
use Rattle.spoilers.proofs.raise.raise.Goals.{Start}
use Rattle.spoilers.proofs.raise.raise.Goals as goal

place : (c : Start) → Placed c.args.game.now.arena (rising c.args.table.now c.args.risen.now c.args.rows.now c.args.olds.now) c.args.b c.args.q c.args.r
place c = placed c.args.game.now _ c.requires.raising c.args.b c.args.q c.args.r c.requires.position_in_game.0 c.requires.position_in_game.1 c.requires.position_in_game.2

pub returns-then-e-was : goal.returns-then-e-was
returns-then-e-was c = record { pushed = pushed_none (board c.args.game.now) c.args.game.now.arena.mode _; held = rw (pair_row (board c.args.game.now) c.args.b c.args.q c.args.r) c.if-e-was.true }

pub returns : goal.returns
returns c =
    let B = board c.args.game.now in
    let a = c.args in
    let (pushed, held) = raise_event B a.game.now.arena.mode c.requires.raising.ready.formed a.b a.q a.r a.e c.requires.position_in_game.0 c.requires.position_in_game.1 c.requires.position_in_game.2
    a.table.now a.risen.now a.rows.now a.olds.now _ _ _ _ _ (sym (pair_row B a.b a.q a.r)) (place (goal.at.returns c).Start).entry (omega (arith, c.if-e-was.false)) c.requires.due c.note.ensures in
    record { pushed = pushed; held = held }
