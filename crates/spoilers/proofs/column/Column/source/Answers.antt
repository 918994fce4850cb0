-- `spoilers::source::Column::source` meets its contract: the sum is the position's number, and so it is small.
use Rattle.std.proofs.Common.{◌≡◌, ◌+◌, ◌*◌, ◌<◌, arith}
use Rattle.arena.specs.Game.{board}
use Rattle.halves.specs.Half.{challenged}
use Rattle.spoilers.proofs.Bounds.{challenged_small}
use Rattle.spoilers.proofs.Leads.{leads}
use Rattle.spoilers.proofs.column.Column.source.Goals.{After-begin}
use Rattle.spoilers.proofs.column.Column.source.Goals as goal

-- the sum is the position's number
sums : (c : After-begin) → c.begin.result + c.args.x * (c.args.game.now.arena.states * c.args.game.now.arena.letters) + c.args.a ≡ challenged (board c.args.game.now) c.args.game.now.arena.mode c.args.self.bit c.args.self.blue c.args.x c.args.a
sums c = rw c.begin.ensures (leads c.args.game.now c.args.self c.requires.shaped c.args.x c.args.a c.requires.move_in_game.1)

small : (c : After-begin) → c.begin.result + c.args.x * (c.args.game.now.arena.states * c.args.game.now.arena.letters) + c.args.a < 139264
small c =
    rw (sums c) (challenged_small (board c.args.game.now) c.args.game.now.arena.mode c.requires.shaped.known.formed _ _ _ _ c.requires.shaped.bit c.requires.shaped.blue c.requires.move_in_game.1 c.requires.move_in_game.0)

pub overflow_add-result : goal.overflow_add-result
overflow_add-result c = omega (arith, small (goal.at.overflow_add-result c).After-begin)

pub overflow_add-result-2 : goal.overflow_add-result-2
overflow_add-result-2 c = omega (arith, small (goal.at.overflow_add-result-2 c).After-begin)
