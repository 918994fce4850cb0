-- `spoilers::floor::floor_of` meets its contract: in each mode the tests tell what the kinds of the column's positions ask for with High 0.
use Rattle.std.proofs.Common.{◌≡◌, false, arith}
use Rattle.automaton.specs.Board.{accepts}
use Rattle.simulation.proofs.Limits.{layers-most}
use Rattle.arena.specs.Game.{board}
use Rattle.spoilers.proofs.Members.{has_in, has-not}
use Rattle.spoilers.proofs.Asks.{accepting_in, accepting-out}
use Rattle.spoilers.proofs.Floors.{floor-accepting, floor_ordinary, floor_reset, floor-delayed, floor-direct, floor-fair}
use Rattle.spoilers.proofs.floor.floor_of.Goals.{Else-has}
use Rattle.spoilers.proofs.floor.floor_of.Goals as goal

-- behind the first test, Blue's state does not accept
not_blue : (c : Else-has) → accepts (board c.args.game.now) c.args.r ≡ false
not_blue c = accepting-out (board c.args.game.now) _ c.requires.known.accepting _ c.requires.column_in_game.1 (has-not _ _ c.has.ensures c.if-has.false)

pub returns-then-has : goal.returns-then-has
returns-then-has c =
    let a = c.args in
    floor-accepting (board a.game.now) a.game.now.arena.mode a.b a.r (accepting_in (board a.game.now) _ c.requires.known.accepting _ c.requires.column_in_game.1 (has_in _ _ c.has.ensures c.if-has.true))

pub returns-in-Ordinary : goal.returns-in-Ordinary
returns-in-Ordinary c = let a = c.args in floor_ordinary (board a.game.now) a.game.now.arena.mode a.b a.r c.in-Ordinary.is

pub returns-in-Direct : goal.returns-in-Direct
returns-in-Direct c =
    let a = c.args in
    floor-direct (board a.game.now) a.game.now.arena.mode a.b a.r a.acc c.requires.known.accepting (not_blue (goal.at.returns-in-Direct c).Else-has) a.game.now.arena.top c.requires.known.topped c.in-Direct.is

pub returns-in-Delayed : goal.returns-in-Delayed
returns-in-Delayed c = let a = c.args in floor_reset (board a.game.now) a.game.now.arena.mode a.b a.r c.in-Delayed.is c.if-b-eq0.true

pub returns-in-Delayed-2 : goal.returns-in-Delayed-2
returns-in-Delayed-2 c =
    let a = c.args in
    let one : a.b ≡ 1 = omega (arith, layers-most a.game.now.arena.mode, c.requires.column_in_game.0, c.if-b-eq0.false) in
    floor-delayed (board a.game.now) a.game.now.arena.mode a.b a.r _ c.below.ensures c.in-Delayed.is one (not_blue (goal.at.returns-in-Delayed-2 c).Else-has)

pub returns-in-Fair : goal.returns-in-Fair
returns-in-Fair c = let a = c.args in floor-fair (board a.game.now) a.game.now.arena.mode a.b a.r a.acc c.requires.known.accepting (not_blue (goal.at.returns-in-Fair c).Else-has) c.in-Fair.is
