-- `spoilers::pulling::high_by` meets its contract. The invariant: h is the greatest of `high` and of what the members that are not left lead to.
use Rattle.std.proofs.Common.{ap, ◌<◌, arith}
use Rattle.games.specs.Game.{at}
use Rattle.simulation.proofs.Moves.{move-within}
use Rattle.arena.specs.Game.{board}
use Rattle.spoilers.proofs.Bounds.{challenged-within, challenged_small}
use Rattle.spoilers.proofs.Pulls.{climb_more, climb_end}
use Rattle.spoilers.proofs.pulling.high_by.Goals.{In-Some}
use Rattle.spoilers.proofs.pulling.high_by.Goals as goal

-- a member of the word of the moves from q by a is a state
below : (c : In-Some) → c.in-Some.x < c.args.game.now.arena.states
below c =
    (move-within (board c.args.game.now) c.requires.ready.formed c.args.q c.args.a c.in-Some.x
    (c.requires.onto.move c.args.q c.args.a c.in-Some.x c.requires.move_in_game.0 c.requires.move_in_game.1 (c.loop-x.invariant.sub c.in-Some.x c.in-Some.ensures.steps.1.here))).2

pub offset_bounds-table-source : goal.offset_bounds-table-source
offset_bounds-table-source c =
    omega (arith, c.source.ensures, challenged_small (board c.args.game.now) c.args.game.now.arena.mode c.requires.ready.formed _ _ _ _ c.requires.shaped.bit c.requires.shaped.blue (below (goal.at.offset_bounds-table-source c).In-Some) c.requires.move_in_game.1)

pub bounds-table-source : goal.bounds-table-source
bounds-table-source c =
    omega (arith, c.source.ensures, c.requires.ready.entries, challenged-within (board c.args.game.now) c.args.game.now.arena.mode c.requires.ready.formed _ _ _ _ c.requires.shaped.bit c.requires.shaped.blue (below (goal.at.bounds-table-source c).In-Some) c.requires.move_in_game.1)

pub loop-x-preserved : goal.loop-x-preserved
loop-x-preserved c = climb_more _ _ _ c.in-Some.ensures.steps.1 c.loop-x.invariant (ap (at c.args.table.now) c.source.ensures) (omega (arith, c.max-h.ensures))

pub returns : goal.returns
returns c =
    let a = c.args in
    climb_end (board a.game.now) a.game.now.arena.mode a.table.now a.c.bit a.q a.c.blue a.onto.now a.a a.high
    c.requires.onto c.requires.move_in_game.0 c.requires.move_in_game.1 c.in-None.ensures.steps.0 c.loop-x.invariant
