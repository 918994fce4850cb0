-- `rounds::settle` meets its contract: the lists that it lends are zeros at the limits, and the words are drawn.
use Rattle.std.proofs.Common.{◌*◌}
use Rattle.automaton.specs.Limits.{most_states, most_letters}
use Rattle.arena.specs.Game.{board}
use Rattle.halves.proofs.Drawing.{zeros-empty}
use Rattle.rounds.proofs.Lent.{words-most, blank-zeros, equipped_first}
use Rattle.rounds.proofs.settle.Goals as goal

pub draw-requires : goal.draw-requires
draw-requires c =
    let B = board c.args.game.now in
    let F = c.requires.ready.formed in
    let none = zeros-empty (most_states * most_letters) in
    record { formed = F; letters_in_bounds = (words-most B F, words-most B F); empty = (none, none) }

pub sweeps-requires : goal.sweeps-requires
sweeps-requires c =
    let B = board c.args.game.now in
    record { equipped = equipped_first c.args.game.now c.args.table.now c.requires.ready c.accepting-acc.ensures c.draw.ensures.into c.draw.ensures.onto; table_value = c.requires.table_value; blank = blank-zeros B c.args.game.now.arena.mode (2 * most_states) }
