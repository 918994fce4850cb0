-- The cases hold of the definitions, by computing them.
use Rattle.std.proofs.Common.{refl}
use Rattle.automaton.specs.Check.{checked}
use Rattle.automaton.specs.First.{first}
use Rattle.simulation.specs.Cases.{AllHold}
use Rattle.table.specs.Calls.{lifted, lifting}
use Rattle.capi.specs.Cases.{cases}

pub worked : AllHold cases
unfolding checked first lifted lifting
worked = (refl, (refl, (refl, (refl, (refl, (refl, (refl, tt)))))))
