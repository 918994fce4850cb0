-- The cases hold of the definitions, by computing them.
use mathlib.Core.Path.{refl}
use Rattle.games.specs.Game.{ask, lowest, highest, full}
use Rattle.games.specs.Lift.{lift}
use Rattle.automaton.specs.First.{first}
use Rattle.table.specs.Calls.{lifted, lifting, rested, resting, settling}
use Rattle.simulation.specs.Cases.{AllHold}
use Rattle.table.specs.Cases.{cases}

pub worked : AllHold cases
unfolding lift ask lowest highest full first lifted lifting rested resting settling
worked = (refl, (refl, (refl, (refl, (refl, (refl, (refl, (refl, (refl, (refl, (refl, (refl, (refl, tt)))))))))))))
