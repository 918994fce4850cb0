-- `duplicators::raising::mark` meets its contract: the words of the column and of its layer are in range.
use Rattle.std.proofs.Common.{◌+◌, ◌*◌, ◌≤◌, ◌<◌, arith, length}
use Rattle.automaton.specs.Board.{Board}
use Rattle.simulation.specs.Position.{layers}
use Rattle.arena.specs.Game.{board}
use Rattle.halves.specs.Rising.{column}
use Rattle.duplicators.proofs.Bounds.{column-few}
use Rattle.duplicators.proofs.Marking.{mark_made}
use Rattle.duplicators.proofs.raising.mark.Goals as goal

pub returns : goal.returns
returns c =
    let B : Board = board c.args.game.now in
    let few : (c.args.w.b * c.args.game.now.arena.states + c.args.r < layers c.args.game.now.arena.mode * c.args.game.now.arena.states) × (layers c.args.game.now.arena.mode * c.args.game.now.arena.states ≤ 128) × (column B c.args.w.b c.args.r c.args.a < layers c.args.game.now.arena.mode * c.args.game.now.arena.states * c.args.game.now.arena.letters) × (layers c.args.game.now.arena.mode * c.args.game.now.arena.states * c.args.game.now.arena.letters ≤ 2048) = column-few c.args.game.now.arena.mode c.requires.states_le_most_states.0 c.requires.states_le_most_states.1 c.requires.in_range.0 c.requires.in_range.2 c.requires.in_range.3 in
    let word_room : column B c.args.w.b c.args.r c.args.a < length c.args.grown.now = omega (arith, few.2, c.requires.spacious.words) in
    let set_room : c.args.w.b < length c.args.columns.now = omega (arith, c.requires.in_range.0, c.requires.spacious.sets) in
    mark_made B c.args.grown.now c.args.columns.now c.args.w.b c.args.w.q c.args.r c.args.a _ _ word_room set_room c.with.ensures c.with-2.ensures
