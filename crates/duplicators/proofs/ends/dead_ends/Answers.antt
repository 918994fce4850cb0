-- `duplicators::ends::dead_ends` meets its contract: a word that is found holds what has no step, and all that is found has been raised.
use Rattle.std.proofs.Common.{List, ℕ}
use Rattle.automaton.specs.Board.{Board}
use Rattle.arena.specs.Game.{board}
use Rattle.duplicators.specs.Growing.{growing}
use Rattle.duplicators.proofs.Ending.{ended-all, ended-none}
use Rattle.duplicators.proofs.Part.{part_none}
use Rattle.duplicators.proofs.ends.dead_ends.Goals as goal

pub returns-then-any-eq0 : goal.returns-then-any-eq0
returns-then-any-eq0 c =
    let B : Board = board c.args.game.now in
    let found : List ℕ = c.dead_letters-any.new.found in
    record { answered_in = part_none B c.args.game.now.arena.mode (growing c.args.table.now c.args.grown.now c.args.columns.now); all_ended = ended-none B c.args.game.now.arena.mode c.args.onto.now found c.requires.onto c.dead_letters-any.ensures.all_dead c.args.table.now c.dead_letters-any.result c.dead_letters-any.ensures.all_in c.if-any-eq0.true }

pub returns-clause-all_ended : goal.returns-clause-all_ended
returns-clause-all_ended c = ended-all (board c.args.game.now) c.args.game.now.arena.mode c.args.onto.now c.dead_letters-any.new.found c.requires.onto c.dead_letters-any.ensures.all_dead c.end_layers.new.table c.end_layers.ensures.each_found
