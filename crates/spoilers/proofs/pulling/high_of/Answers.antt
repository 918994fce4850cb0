-- `spoilers::pulling::high_of` meets its contract. The invariant: h is High by the letters below a.
use Rattle.std.proofs.Common.{◌≡◌, arith}
use Rattle.spoilers.proofs.Pulls.{high-none, high-more}
use Rattle.spoilers.proofs.pulling.high_of.Goals as goal

pub loop-a-init : goal.loop-a-init
loop-a-init c = high-none _ _ _ _ _ _

pub loop-a-preserved : goal.loop-a-preserved
loop-a-preserved c = high-more _ _ _ _ _ _ _ _ _ c.loop-a.invariant c.high_by-h.ensures

pub returns : goal.returns
returns c =
    let e : c.loop-a.a ≡ c.args.game.now.arena.letters = omega arith in
    rw e at c.loop-a.invariant
