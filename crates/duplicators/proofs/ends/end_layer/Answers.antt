-- `duplicators::ends::end_layer` meets its contract: the candidates in the rows before q are at rest.
use Rattle.std.proofs.Common.{arith}
use Rattle.arena.specs.Game.{board}
use Rattle.duplicators.proofs.Ending.{ending-start, ending-more}
use Rattle.duplicators.proofs.Part.{parts-few}
use Rattle.duplicators.proofs.ends.end_layer.Goals as goal

pub loop-q-init : goal.loop-q-init
loop-q-init c = ending-start _ _ _ _ _

pub overflow_add-count : goal.overflow_add-count
overflow_add-count c = omega (arith, parts-few c.requires.ready.formed c.requires.ready.entries c.loop-q.invariant.part c.raise_all-count.ensures.answered_in)

pub loop-q-preserved : goal.loop-q-preserved
loop-q-preserved c =
    ending-more (board c.args.game.now) c.args.game.now.arena.mode c.args.found.now c.requires.ready.formed c.requires.found_within.1 c.raise_all-count.ensures.answered_in c.requires.ready.entries c.requires.b_bound c.loop-q-test.true
    c.loop-q.invariant (rw (c.of-w.ensures.numbers.0, c.of-w.ensures.numbers.1) at c.raise_all-count.ensures.found_still)
