-- The answer of an accepted quotient: its counts as the values.
use Rattle.automaton.specs.Answer.{Answer}
use Rattle.quotient.specs.Calls.{counted}
use Rattle.quotient.specs.declared.Counts.{Counts}

abbrev pub merged : Counts → Answer
merged c = counted c.classes c.moves c.start
