-- `spoilers::layer::stirred` meets its contract: what a move to an accepting state and to another may come from.
use Rattle.std.proofs.Common.{refl, ap}
use Rattle.games.specs.Game.{at}
use Rattle.arena.specs.Game.{board}
use Rattle.spoilers.proofs.Leads.{columns_made}
use Rattle.spoilers.proofs.layer.stirred.Goals as goal

pub returns : goal.returns
returns c =
    columns_made (board c.args.game.now) c.args.game.now.arena.mode c.args.columns.now c.args.b _ _ _ _ _
    refl (ap (at c.args.columns.now) c.pended.ensures) c.join.ensures c.below.ensures c.meet.ensures
