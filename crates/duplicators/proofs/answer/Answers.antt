-- `duplicators::answer` meets its contract: the layers before b are at rest.
use Rattle.std.proofs.Common.{◌≡◌, subst, ℕ, ◌<◌, arith}
use Rattle.automaton.specs.Board.{Board}
use Rattle.arena.specs.Game.{board}
use Rattle.halves.specs.Rising.{rising}
use Rattle.duplicators.specs.declared.drawn.Drawn.{Drawn}
use Rattle.duplicators.specs.Growing.{Growing, growing}
use Rattle.simulation.specs.Position.{layers}
use Rattle.duplicators.specs.Rows.{Prepared}
use Rattle.duplicators.proofs.Part.{parts-few}
use Rattle.duplicators.proofs.Whole.{Half, half_start, half_more, half_done, prepared_again, stirred_again}
use Rattle.duplicators.proofs.answer.Goals as goal

pub loop-b-init : goal.loop-b-init
loop-b-init c = half_start _ _ _

pub answer_layer-count-requires : goal.answer_layer-count-requires
answer_layer-count-requires c =
    let first : Growing = growing c.args.table.now c.args.grown.now c.args.columns.now in
    let here : Growing = growing c.loop-b.table c.loop-b.grown c.loop-b.columns in
    let drawn : Drawn = record { game = c.args.game.now; acc = c.args.acc; into = c.args.into; onto = c.args.onto } in
    let prepared : Prepared drawn (rising c.args.table.now c.args.risen.now c.args.rows.now c.args.olds.now) c.args.grown.now c.args.columns.now = record { ready = c.requires.ready; faithful = record { accepting = c.requires.accepting; drawn_into = c.requires.into; drawn_onto = c.requires.onto }; spacious = c.requires.spacious; roomy = c.requires.roomy } in
    let below : c.loop-b.b < layers c.args.game.now.arena.mode = omega (arith, c.loop-b-test.true, c.layers_of-b-end.ensures) in
    let F = c.requires.ready.formed in
    let b = below in
    record { prepared = prepared_again drawn c.args.risen.now c.args.rows.now c.args.olds.now first here c.loop-b.invariant.part prepared; b_bound = b; layer_stirred = λ q h. stirred_again c.loop-b.invariant.part F c.args.risen.now c.args.rows.now c.args.olds.now c.loop-b.b q b h (λ r a hr ha. c.requires.all_stirred c.loop-b.b q r a b h hr ha) }

pub overflow_add-count : goal.overflow_add-count
overflow_add-count c = omega (arith, parts-few c.requires.ready.formed c.requires.ready.entries c.loop-b.invariant.part c.answer_layer-count.ensures.answered_in)

pub loop-b-preserved : goal.loop-b-preserved
loop-b-preserved c =
    let B : Board = board c.args.game.now in
    let below : c.loop-b.b < layers c.args.game.now.arena.mode = omega (arith, c.loop-b-test.true, c.layers_of-b-end.ensures) in
    let o = c.requires.ready in
    half_more B c.args.game.now.arena.mode o.formed o.entries below c.loop-b.invariant c.answer_layer-count.ensures.answered_in c.answer_layer-count.ensures.layer_still

pub returns : goal.returns
returns c =
    let B : Board = board c.args.game.now in
    let first : Growing = growing c.args.table.now c.args.grown.now c.args.columns.now in
    let here : Growing = growing c.loop-b.table c.loop-b.grown c.loop-b.columns in
    let o = c.requires.ready in
    let past : c.loop-b.b ≡ layers c.args.game.now.arena.mode = omega (arith, c.loop-b-test.false, c.layers_of-b-end.ensures, c.loop-b.auto.b-end) in
    record { halved = half_done B c.args.game.now.arena.mode o.formed c.args.game.now.arena.pairs o.paired o.entries (subst (λ (b : ℕ). Half B c.args.game.now.arena.mode first here b c.loop-b.count) past c.loop-b.invariant); answered_in = c.loop-b.invariant.part }
