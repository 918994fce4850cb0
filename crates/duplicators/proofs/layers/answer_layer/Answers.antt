-- `duplicators::layers::answer_layer` meets its contract: the rows that are not left are at rest.
use Rattle.std.proofs.Common.{subst, ℕ, arith}
use Rattle.automaton.specs.Board.{Board}
use Rattle.arena.specs.Game.{board}
use Rattle.duplicators.specs.Growing.{Growing, growing}
use Rattle.games.specs.Game.{at}
use Rattle.words.specs.Word.{Joined}
use Rattle.duplicators.proofs.Part.{parts-few}
use Rattle.duplicators.proofs.Whole.{layer-start, layer-more, layer-end, prepared_again, stirred_again}
use Rattle.duplicators.proofs.layers.answer_layer.Goals as goal

pub loop-q-init : goal.loop-q-init
loop-q-init c =
    let B : Board = board c.args.drawn.now.game in
    let first : Growing = growing c.args.table.now c.args.grown.now c.args.columns.now in
    let m = c.args.drawn.now.game.arena.mode in
    rw (c.into_iter-q-iterator.ensures.into_iter_gives, c.members-q-items.ensures)
    (layer-start B m c.args.b first c.args.notes.now.risen.now c.args.notes.now.rows.now c.args.notes.now.olds.now
    (subst (λ (e : ℕ). Joined (at c.args.notes.now.rows.now c.args.b) (at c.args.notes.now.rows.now e) c.join.result) c.eased-eased.ensures c.join.ensures) c.below.ensures c.meet-touched.ensures c.requires.layer_stirred)

pub answer_red-count-requires : goal.answer_red-count-requires
answer_red-count-requires c =
    let first : Growing = growing c.args.table.now c.args.grown.now c.args.columns.now in
    let here : Growing = growing c.loop-q.table c.loop-q.grown c.loop-q.columns in
    let popped = c.in-Some.ensures.steps.1 in
    let F = c.requires.prepared.ready.formed in
    let q = c.loop-q.invariant.within _ popped.here in
    record { prepared = prepared_again c.args.drawn.now c.args.notes.now.risen.now c.args.notes.now.rows.now c.args.notes.now.olds.now first here c.loop-q.invariant.part c.requires.prepared; in_range = (c.requires.b_bound, q); red_stirred = stirred_again c.loop-q.invariant.part F c.args.notes.now.risen.now c.args.notes.now.rows.now c.args.notes.now.olds.now c.args.b _ c.requires.b_bound q (c.requires.layer_stirred _ q) }

pub overflow_add-count : goal.overflow_add-count
overflow_add-count c = omega (arith, parts-few c.requires.prepared.ready.formed c.requires.prepared.ready.entries c.loop-q.invariant.part c.answer_red-count.ensures.answered_in)

pub loop-q-preserved : goal.loop-q-preserved
loop-q-preserved c =
    let B : Board = board c.args.drawn.now.game in
    let popped = c.in-Some.ensures.steps.1 in
    let o = c.requires.prepared.ready in
    layer-more B c.args.drawn.now.game.arena.mode c.args.b o.formed o.entries c.requires.b_bound popped c.loop-q.invariant c.answer_red-count.ensures.answered_in c.answer_red-count.ensures.row_still

pub returns-clause-layer_still : goal.returns-clause-layer_still
returns-clause-layer_still c = (layer-end (board c.args.drawn.now.game) c.args.drawn.now.game.arena.mode c.args.b c.in-None.ensures.steps.0 c.loop-q.invariant).1
