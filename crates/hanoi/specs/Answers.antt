-- The number, place and values of what `read` gives. A refusal's are those of `automaton`.
use Rattle.std.specs.Prelude.{[], ◌∷◌}
use Rattle.automaton.specs.Answer.{Answer}
use Rattle.hanoi.specs.declared.Reading.{Reading}

-- values: states, letters, start, the number of moves
abbrev pub of_reading : Reading → Answer
of_reading r =
    let a = r.automaton in
    record { number = 0; place = 0; values = a.states ∷ a.letters ∷ a.start ∷ r.moves ∷ [] }
