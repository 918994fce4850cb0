-- `nots` meets its contract: the row grows by one `!` a turn, up to the first other token.
use Rattle.std.proofs.Common.{ap, arith}
use Rattle.tokens.specs.Sorts.{stands}
use Rattle.tokens.specs.Tokens.{token_from}
use Rattle.labels.specs.Parts.{none, more}
use Rattle.labels.proofs.Reach.{next-on}
use Rattle.labels.proofs.Units.{here}
use Rattle.labels.proofs.nots.Goals as goal

pub loop-odd-init : goal.loop-odd-init
loop-odd-init c = (c.requires, none)

pub loop-odd-smaller : goal.loop-odd-smaller
loop-odd-smaller c =
    let on = next-on c.args.text.now c.token_from-x.ensures c.loop-odd.invariant.0 (ap stands c.in-Not.is) in
    omega arith

pub loop-odd-preserved : goal.loop-odd-preserved
loop-odd-preserved c =
    let text = c.args.text.now in
    let on = next-on text c.token_from-x.ensures c.loop-odd.invariant.0 (ap stands c.in-Not.is) in
    (on.1, more c.loop-odd.invariant.1 (here (token_from text) c.loop-odd.at c.token_from-x.ensures c.in-Not.is))
