-- `duplicators::rows::answer_row` meets its contract: the candidates cover what is not at rest, by scans and by levels.
use Rattle.std.proofs.Common.{List, ℕ, arith}
use Rattle.automaton.specs.Board.{Board}
use Rattle.arena.specs.Game.{board}
use Rattle.levels.specs.Lows.{AllWithin}
use Rattle.duplicators.specs.Rows.{RowFound}
use Rattle.duplicators.proofs.Found.{found_within, found_row, found_covers, row_done}
use Rattle.duplicators.proofs.rows.answer_row.Goals as goal

pub returns-then-few : goal.returns-then-few
returns-then-few c =
    let B : Board = board c.args.drawn.now.game in
    let found : List ℕ = c.reach_all-count.new.found in
    let covers : RowFound B c.args.drawn.now.game.arena.mode c.args.table.now c.args.w.b c.args.w.q found c.args.old =
    found_row B c.args.drawn.now.game.arena.mode c.requires.working.ready.formed c.args.drawn.now.into.now c.requires.faithful.drawn_into c.args.table.now c.args.w.b c.args.w.q c.args.fresh c.args.old found
    c.reach_all-count.ensures.found c.requires.row_stirred in
    let o = c.requires.working in
    record { answered_in = c.raise_all.ensures.answered_in; row_still = row_done o.ready.formed c.args.w.b c.args.w.q found o.rowed.bit o.rowed.red c.raise_all.ensures.answered_in (found_covers B c.args.drawn.now.game.arena.mode c.args.table.now found c.args.w.b c.args.w.q c.args.old covers) c.raise_all.ensures.found_still }

pub level_row-requires : goal.level_row-requires
level_row-requires c =
    let B : Board = board c.args.drawn.now.game in
    let found : List ℕ = c.reach_all-count.new.found in
    let within : AllWithin c.args.drawn.now.game.arena.letters c.args.drawn.now.game.arena.states found = found_within B c.args.drawn.now.game.arena.mode c.requires.working.ready.formed c.args.drawn.now.into.now c.requires.faithful.drawn_into c.args.fresh found c.requires.within c.reach_all-count.ensures.found in
    let covers : RowFound B c.args.drawn.now.game.arena.mode c.args.table.now c.args.w.b c.args.w.q found c.args.old =
    found_row B c.args.drawn.now.game.arena.mode c.requires.working.ready.formed c.args.drawn.now.into.now c.requires.faithful.drawn_into c.args.table.now c.args.w.b c.args.w.q c.args.fresh c.args.old found
    c.reach_all-count.ensures.found c.requires.row_stirred in
    record { working = c.requires.working; faithful = c.requires.faithful; found_within = (omega (arith, c.requires.working.ready.formed.few_letters), within); row_found = covers }
