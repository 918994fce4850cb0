-- What `write` and `finish` answer and leave, from the sheet of a body and the triples that were marked.
-- The functions of this crate promise it to each other; no public promise cites it.
use Rattle.std.specs.Prelude.{◌||◌, List, [], ◌∷◌, map, ℕ, ◌*◌, ◌/◌, ltb, length, get_or}
use Rattle.games.specs.Settle.{ascending}
use Rattle.automaton.specs.declared.Automaton.{Automaton}
use Rattle.automaton.specs.declared.Refusal.TheVariants.{OutputLength}
use Rattle.automaton.specs.Answer.{Fault, fails, first_fault}
use Rattle.automaton.specs.Effect.{Effect, does}
use Rattle.simulation.specs.Rules.{bit}
use Rattle.triples.specs.Triples.{triples_in}
use Rattle.bodies.specs.declared.Entry.{Entry}
use Rattle.bodies.specs.Body.{unlisted, is_accepting}
use Rattle.text.specs.Calls.{Lent, before}
use Rattle.hanoi.specs.declared.Limits.{Limits}
use Rattle.hanoi.specs.Answers.{of_reading}
use Rattle.hanoi.specs.Calls.{faults_of}

-- the mark of a state, and those of n states
abbrev pub mark_of : (sheet : List Entry) → (q : ℕ) → ℕ
mark_of sheet q = bit (is_accepting (get_or sheet q unlisted))

abbrev pub marks_of : (sheet : List Entry) → (n : ℕ) → List ℕ
marks_of sheet n = map (mark_of sheet) (ascending 0 n)

-- the marked triples in turn
abbrev pub moves_of : Automaton → (seen : List ℕ) → List ℕ
moves_of a seen = triples_in a.states a.letters seen (a.states * a.letters * a.states)

module _ (a : Automaton) (marks moves : List ℕ) (x : Lent) where
  -- marks and moves before the rest of the buffers
  abbrev pub done : Effect Lent
  done = record { answer = of_reading (record { automaton = a; moves = length moves / 3 }); left = record { marks = before marks x.marks; moves = before moves x.moves } }

  -- is there too little room?
  abbrev pub short : Fault
  short = fails (ltb (length x.marks) a.states || ltb (length x.moves) (length moves)) OutputLength

  -- what `write` comes to
  abbrev pub writing : Effect Lent
  writing = does short x done

-- and with the judgement of the numbers before it
abbrev pub finishing : Limits → Automaton → (marks moves : List ℕ) → Lent → Effect Lent
finishing b a marks moves x = does (first_fault (first_fault (faults_of b a) ∷ short a marks moves x ∷ [])) x (done a marks moves x)
