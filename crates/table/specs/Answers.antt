-- The number, place and values of what each call gives.
use Rattle.std.specs.Prelude.{Bool, ℕ, Option, Some, None}
use Rattle.automaton.specs.Answer.{Answer, valued, placed}
use Rattle.entries.specs.Found.{raised}

-- what `lift` gives: whether the entry rose
abbrev pub rose : Bool → Answer
rose b = valued (raised b)

-- what `rest` gives: the lowest position not at rest, or none
abbrev pub found : Option ℕ → Answer
found None = valued 1
found (Some v) = placed v
