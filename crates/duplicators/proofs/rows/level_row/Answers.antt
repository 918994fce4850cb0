-- `duplicators::rows::level_row` meets its contract: the candidates that are left cover what is not at rest.
use Rattle.std.proofs.Common.{◌≡◌, ◌∙◌, List, ℕ, ◌<◌, arith}
use Rattle.automaton.specs.Board.{Board}
use Rattle.arena.specs.Game.{board}
use Rattle.games.specs.Game.{at}
use Rattle.halves.specs.Half.{replied}
use Rattle.duplicators.proofs.Asking.{seen_same, row-seats}
use Rattle.duplicators.proofs.Found.{spared_within, spared_row, spared_none, spared_told, row_done}
use Rattle.duplicators.proofs.Part.{part_none}
use Rattle.duplicators.proofs.rows.level_row.Goals as goal

pub gather-low-requires : goal.gather-low-requires
gather-low-requires c =
    let B : Board = board c.args.drawn.now.game in
    let o = c.requires.working in
    record { row_has_room = (o.ready.formed.few, omega (arith, o.ready.formed.few)); seats = row-seats B c.args.drawn.now.game.arena.mode o.ready.formed c.args.w o.rowed c.args.table.now o.ready.entries }

pub returns-then-any-eq0 : goal.returns-then-any-eq0
returns-then-any-eq0 c =
    let B : Board = board c.args.drawn.now.game in
    let row : List ℕ = c.gather-low.new.row in
    let same : (x : ℕ) → x < c.args.drawn.now.game.arena.states → at row x ≡ at c.args.table.now (replied B c.args.drawn.now.game.arena.mode c.args.w.b c.args.w.q x) = λ x h. c.gather-low.ensures.gathered x h ∙ seen_same B c.args.drawn.now.game.arena.mode c.requires.working.ready.formed c.args.w c.requires.working.rowed c.args.drawn.now.acc c.requires.faithful.accepting c.args.table.now x h in
    let left : List ℕ = c.spare_all-any.new.found in
    let o = c.requires.working in
    record { answered_in = part_none _ _ _; row_still = spared_none B c.args.drawn.now.game.arena.mode o.ready.formed c.args.drawn.now.into.now c.requires.faithful.drawn_into c.args.table.now c.args.w.b c.args.w.q c.args.old c.gather-low.result row c.args.found.now left o.rowed.bit o.rowed.red same c.gather-low.ensures.at_most c.spare_all-any.ensures.all_spared _ c.spare_all-any.ensures.all_in c.if-any-eq0.true c.requires.row_found }

pub raise_rest-requires : goal.raise_rest-requires
raise_rest-requires c =
    let B : Board = board c.args.drawn.now.game in
    let row : List ℕ = c.gather-low.new.row in
    let same : (x : ℕ) → x < c.args.drawn.now.game.arena.states → at row x ≡ at c.args.table.now (replied B c.args.drawn.now.game.arena.mode c.args.w.b c.args.w.q x) = λ x h. c.gather-low.ensures.gathered x h ∙ seen_same B c.args.drawn.now.game.arena.mode c.requires.working.ready.formed c.args.w c.requires.working.rowed c.args.drawn.now.acc c.requires.faithful.accepting c.args.table.now x h in
    let left : List ℕ = c.spare_all-any.new.found in
    let o = c.requires.working in
    let within = spared_within B c.args.drawn.now.game.arena.mode o.ready.formed c.args.drawn.now.into.now c.requires.faithful.drawn_into c.args.table.now c.args.w.b c.args.w.q c.args.old c.gather-low.result row c.args.found.now left o.rowed.bit o.rowed.red same c.gather-low.ensures.at_most c.spare_all-any.ensures.all_spared c.requires.found_within.1 in
    record { working = o; faithful = c.requires.faithful; found_within = (omega (arith, c.requires.found_within.0, c.spare_all-any.auto.found), within); row_whole = omega (arith, o.ready.formed.few); levels_tell = λ every rest levels all minus peeled. spared_told B c.args.drawn.now.game.arena.mode o.ready.formed c.args.drawn.now.into.now c.requires.faithful.drawn_into c.args.table.now c.args.w.b c.args.w.q c.args.old c.gather-low.result row c.args.found.now left o.rowed.bit o.rowed.red same c.gather-low.ensures.at_most c.spare_all-any.ensures.all_spared c.args.drawn.now.onto.now c.requires.faithful.drawn_onto _ every rest o.ready.topped all minus levels peeled within }

pub returns : goal.returns
returns c =
    let B : Board = board c.args.drawn.now.game in
    let row : List ℕ = c.gather-low.new.row in
    let same : (x : ℕ) → x < c.args.drawn.now.game.arena.states → at row x ≡ at c.args.table.now (replied B c.args.drawn.now.game.arena.mode c.args.w.b c.args.w.q x) = λ x h. c.gather-low.ensures.gathered x h ∙ seen_same B c.args.drawn.now.game.arena.mode c.requires.working.ready.formed c.args.w c.requires.working.rowed c.args.drawn.now.acc c.requires.faithful.accepting c.args.table.now x h in
    let left : List ℕ = c.spare_all-any.new.found in
    let o = c.requires.working in
    record {
      answered_in = c.raise_rest.ensures.answered_in;
      row_still = row_done o.ready.formed c.args.w.b c.args.w.q left o.rowed.bit o.rowed.red c.raise_rest.ensures.answered_in
          (spared_row B c.args.drawn.now.game.arena.mode o.ready.formed c.args.drawn.now.into.now c.requires.faithful.drawn_into c.args.table.now c.args.w.b c.args.w.q c.args.old c.gather-low.result row c.args.found.now left o.rowed.bit o.rowed.red same c.gather-low.ensures.at_most c.spare_all-any.ensures.all_spared c.requires.row_found) c.raise_rest.ensures.found_still;
    }
