-- `sweep::all_rows` meets its contract: each row with a member is in the set of its b, which one of the two calls empties.
use Rattle.arena.specs.Game.{board}
use Rattle.sweep.proofs.Wiping.{blanked}
use Rattle.sweep.proofs.wipe.all_rows.Goals as goal

pub returns : goal.returns
returns c =
    let a = c.args in
    blanked (board a.game.now) a.game.now.arena.mode a.risen.now c.some_rows.new.risen c.some_rows-2.new.risen a.rows.now
    c.requires.covered c.some_rows.ensures.emptied c.some_rows.ensures.rows_empty c.some_rows-2.ensures.emptied c.some_rows-2.ensures.rows_empty
