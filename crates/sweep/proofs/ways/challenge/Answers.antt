-- `sweep::ways::challenge` meets its contract: either way is Spoiler's half, and to pull asks for less than to push.
use Rattle.arena.specs.Game.{board}
use Rattle.spoilers.proofs.Calms.{calm-floor}
use Rattle.sweep.proofs.ways.challenge.Goals as goal

pub pull-requires : goal.pull-requires
pull-requires c =
    let a = c.args in
    let floor = calm-floor (board a.game.now) a.game.now.arena.mode a.table.now a.grown.now a.columns.now c.requires.all_calm in
    record { ready = c.requires.ready; accepting = c.requires.accepting; onto = c.requires.onto; roomy = c.requires.roomy; capped = c.requires.capped; floored = floor; blank = c.requires.blank }
