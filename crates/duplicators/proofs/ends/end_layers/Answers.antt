-- `duplicators::ends::end_layers` meets its contract: the candidates in the layers before b are at rest.
use Rattle.std.proofs.Common.{◌<◌, arith}
use Rattle.simulation.specs.Position.{layers}
use Rattle.arena.specs.Game.{board}
use Rattle.duplicators.proofs.Ending.{ended-start, ended-more}
use Rattle.duplicators.proofs.Part.{parts-few}
use Rattle.duplicators.proofs.ends.end_layers.Goals as goal

pub loop-b-init : goal.loop-b-init
loop-b-init c = ended-start _ _ _ _

pub overflow_add-count : goal.overflow_add-count
overflow_add-count c = omega (arith, parts-few c.requires.ready.formed c.requires.ready.entries c.loop-b.invariant.part c.end_layer-count.ensures.answered_in)

pub loop-b-preserved : goal.loop-b-preserved
loop-b-preserved c =
    let below : c.loop-b.b < layers c.args.game.now.arena.mode = omega (arith, c.loop-b-test.true, c.layers_of-b-end.ensures) in
    ended-more (board c.args.game.now) c.args.game.now.arena.mode c.args.found.now c.requires.ready.formed c.requires.found_within.1 c.end_layer-count.ensures.answered_in c.requires.ready.entries below
    c.loop-b.invariant c.end_layer-count.ensures.layer_found
