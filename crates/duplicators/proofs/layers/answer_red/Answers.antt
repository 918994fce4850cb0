-- `duplicators::layers::answer_red` meets its contract: what is not at rest in the row has a step to one of `fresh`.
use Rattle.std.proofs.Common.{◌≡◌, refl, sym, subst, true, ℕ, ◌+◌, ◌*◌, min}
use Rattle.automaton.specs.Board.{Board}
use Rattle.arena.specs.Game.{board}
use Rattle.games.specs.Game.{at}
use Rattle.simulation.specs.Rules.{eased}
use Rattle.duplicators.specs.Fresh.{Fresh}
use Rattle.duplicators.specs.Rows.{RowStirred}
use Rattle.duplicators.proofs.Part.{part_none}
use Rattle.duplicators.proofs.Reds.{fresh-within, red-row, fresh-none}
use Rattle.duplicators.proofs.layers.answer_red.Goals as goal

pub returns-then-fresh-eq0 : goal.returns-then-fresh-eq0
returns-then-fresh-eq0 c =
    let B : Board = board c.args.drawn.now.game in
    let fresh : Fresh c.args.drawn.now.acc c.minus-others.result (at c.args.notes.now.risen.now (c.args.b * c.args.drawn.now.game.arena.states + c.args.q)) (at c.args.notes.now.risen.now (eased c.args.drawn.now.game.arena.mode true c.args.b * c.args.drawn.now.game.arena.states + c.args.q)) c.fresh_in-fresh.result =
    subst (λ (e : ℕ). Fresh c.args.drawn.now.acc c.minus-others.result (at c.args.notes.now.risen.now (c.args.b * c.args.drawn.now.game.arena.states + c.args.q)) (at c.args.notes.now.risen.now (e * c.args.drawn.now.game.arena.states + c.args.q)) c.fresh_in-fresh.result)
    c.eased.ensures c.fresh_in-fresh.ensures in
    record { answered_in = part_none _ _ _; row_still = fresh-none B c.args.drawn.now.game.arena.mode c.requires.prepared.ready.formed c.args.drawn.now.acc c.requires.prepared.faithful.accepting c.args.table.now c.args.notes.now.risen.now c.args.notes.now.rows.now c.args.notes.now.olds.now c.args.b c.args.q c.below.result c.minus-others.result c.fresh_in-fresh.result _ c.below.ensures c.minus-others.ensures fresh refl c.if-fresh-eq0.true c.requires.red_stirred }

pub answer_row-requires : goal.answer_row-requires
answer_row-requires c =
    let B : Board = board c.args.drawn.now.game in
    let fresh : Fresh c.args.drawn.now.acc c.minus-others.result (at c.args.notes.now.risen.now (c.args.b * c.args.drawn.now.game.arena.states + c.args.q)) (at c.args.notes.now.risen.now (eased c.args.drawn.now.game.arena.mode true c.args.b * c.args.drawn.now.game.arena.states + c.args.q)) c.fresh_in-fresh.result =
    subst (λ (e : ℕ). Fresh c.args.drawn.now.acc c.minus-others.result (at c.args.notes.now.risen.now (c.args.b * c.args.drawn.now.game.arena.states + c.args.q)) (at c.args.notes.now.risen.now (e * c.args.drawn.now.game.arena.states + c.args.q)) c.fresh_in-fresh.result)
    c.eased.ensures c.fresh_in-fresh.ensures in
    let old : c.min-old.result ≡ min (at c.args.notes.now.olds.now (c.args.b * c.args.drawn.now.game.arena.states + c.args.q)) (at c.args.notes.now.olds.now (eased c.args.drawn.now.game.arena.mode true c.args.b * c.args.drawn.now.game.arena.states + c.args.q)) =
    subst (λ (e : ℕ). c.min-old.result ≡ min (at c.args.notes.now.olds.now (c.args.b * c.args.drawn.now.game.arena.states + c.args.q)) (at c.args.notes.now.olds.now (e * c.args.drawn.now.game.arena.states + c.args.q)))
    c.eased.ensures c.min-old.ensures in
    let o = c.requires.prepared in
    let B = B in
    let m = c.args.drawn.now.game.arena.mode in
    let t = c.args.table.now in
    let stirred : RowStirred B m t c.args.b c.args.q c.fresh_in-fresh.result c.min-old.result = red-row B c.args.drawn.now.game.arena.mode c.requires.prepared.ready.formed c.args.drawn.now.acc c.requires.prepared.faithful.accepting c.args.table.now c.args.notes.now.risen.now c.args.notes.now.rows.now c.args.notes.now.olds.now c.args.b c.args.q c.below.result c.minus-others.result c.fresh_in-fresh.result c.min-old.result c.below.ensures c.minus-others.ensures fresh old c.requires.red_stirred in
    record {
      working = record { ready = o.ready; spacious = o.spacious; rowed = c.of-w.ensures.rowed };
      faithful = o.faithful;
      within = fresh-within B c.args.drawn.now.game.arena.mode c.requires.prepared.ready.formed c.args.drawn.now.acc c.requires.prepared.faithful.accepting c.args.table.now c.args.notes.now.risen.now c.args.notes.now.rows.now c.args.notes.now.olds.now c.args.b c.args.q c.below.result c.minus-others.result c.fresh_in-fresh.result c.min-old.result c.below.ensures c.minus-others.ensures fresh old;
      row_stirred = subst (λ (b : ℕ). RowStirred B m t b c.of-w.result.q c.fresh_in-fresh.result c.min-old.result) (sym c.of-w.ensures.numbers.0)
          (subst (λ (q : ℕ). RowStirred B m t c.args.b q c.fresh_in-fresh.result c.min-old.result) (sym c.of-w.ensures.numbers.1) stirred);
    }
