-- The number, place and values of what `read` gives.
use Rattle.std.specs.Prelude.{[], ◌∷◌}
use Rattle.automaton.specs.Answer.{Answer}
use Rattle.text.specs.declared.Reading.{Reading}

-- values: states, letters, start, the number of the mode, the number of moves
abbrev pub of_reading : Reading → Answer
of_reading r =
    let a = r.automaton in
    record { number = 0; place = 0; values = a.states ∷ a.letters ∷ a.start ∷ r.mode ∷ r.moves ∷ [] }
