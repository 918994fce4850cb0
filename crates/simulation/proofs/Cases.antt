-- The worked cases hold of the definitions, by computing them.
use mathlib.Core.Path.{refl}
use Rattle.games.specs.Game.{ask, lowest, highest, full}
use Rattle.games.specs.Lift.{lift}
use Rattle.games.specs.Reply.{first_least}
use Rattle.automaton.specs.First.{first}
use Rattle.simulation.specs.Cases.{AllHold, cases, slips, merged_cases}

pub worked : AllHold cases
unfolding lift ask lowest highest full first_least first
worked = (refl, (refl, (refl, (refl, (refl, (refl, (refl, (refl, (refl, (refl, (refl, (refl, (refl, (refl, (refl, (refl, (refl, (refl, (refl, (refl, (refl, (refl, tt))))))))))))))))))))))

pub unslipped : AllHold slips
unfolding lift ask lowest highest full first_least first
unslipped = (refl, (refl, (refl, (refl, (refl, (refl, (refl, (refl, (refl, (refl, tt))))))))))

pub merged : AllHold merged_cases
unfolding lift ask lowest highest full first_least first
merged = (refl, (refl, (refl, (refl, (refl, (refl, (refl, (refl, (refl, (refl, (refl, (refl, (refl, tt)))))))))))))
