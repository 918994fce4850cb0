-- What a call answers, in numbers: those of document 01, "Calls" and "Numbers of refusal".
use Rattle.std.specs.Prelude.{Bool, true, false, List, [], ◌∷◌, ℕ, ltb, get_or, Result, Ok, Err}
use Rattle.automaton.specs.First.{first}
use Rattle.automaton.specs.declared.Refusal.{Refusal}
use Rattle.automaton.specs.declared.Refusal.TheVariants.{States, Letters, Marks, Start, Bytes, Outside, Unsorted, ModeNumber, TableLength, AboveCeiling, PositionNumber, NotAtRest, SpoilerPosition, LostPosition, NoMove, OutputLength, WrongMode, LineForm, ProgramLimits, TooLong, Foreign, TooDeep}

-- A number, a place and values; a call that names fewer than three values has 0 for the others.
pub record Answer : Type 0 where
  pub number : ℕ
  pub place : ℕ
  pub values : List ℕ

-- "An accepted call returns number 0; place and value are 0 unless named below"
abbrev pub accepted : Answer
accepted = record { number = 0; place = 0; values = 0 ∷ 0 ∷ 0 ∷ [] }

-- an accepted call that names one value
abbrev pub valued : ℕ → Answer
valued x = record { number = 0; place = 0; values = x ∷ 0 ∷ 0 ∷ [] }

-- one that names a place, and the value 0
abbrev pub placed : ℕ → Answer
placed i = record { number = 0; place = i; values = 0 ∷ 0 ∷ 0 ∷ [] }

-- the value of an answer that names one
abbrev pub value : Answer → ℕ
value a = get_or a.values 0 0

-- "Numbers of refusal": the number and the place of each
abbrev pub number_of : Refusal → ℕ
number_of States = 1
number_of Letters = 2
number_of (Marks i) = 3
number_of Start = 4
number_of Bytes = 5
number_of (Outside i) = 6
number_of (Unsorted i) = 7
number_of ModeNumber = 8
number_of TableLength = 9
number_of (AboveCeiling i) = 10
number_of PositionNumber = 11
number_of (NotAtRest v) = 12
number_of SpoilerPosition = 13
number_of LostPosition = 14
number_of NoMove = 15
number_of OutputLength = 16
number_of WrongMode = 17
number_of (LineForm line) = 20
number_of ProgramLimits = 21
number_of TooLong = 22
number_of (Foreign at) = 23
number_of (TooDeep at) = 24

abbrev pub place_of : Refusal → ℕ
place_of States = 0
place_of Letters = 0
place_of (Marks i) = i
place_of Start = 0
place_of Bytes = 0
place_of (Outside i) = i
place_of (Unsorted i) = i
place_of ModeNumber = 0
place_of TableLength = 0
place_of (AboveCeiling i) = i
place_of PositionNumber = 0
place_of (NotAtRest v) = v
place_of SpoilerPosition = 0
place_of LostPosition = 0
place_of NoMove = 0
place_of OutputLength = 0
place_of WrongMode = 0
place_of (LineForm line) = line
place_of ProgramLimits = 0
place_of TooLong = 0
place_of (Foreign at) = at
place_of (TooDeep at) = at

-- "Every refused call returns its number, a place and values 0"
abbrev pub refused : Refusal → Answer
refused r = record { number = number_of r; place = place_of r; values = 0 ∷ 0 ∷ 0 ∷ [] }

-- the answer of a call that names no value
abbrev pub done : Unit {0} → Answer
done x = accepted

-- the answer of a result: that of the value, or the refusal's
abbrev pub answered : {T : Type 0} → (T → Answer) → Result T Refusal → Answer
answered told (Ok x) = told x
answered told (Err r) = refused r

-- ---- deciding a refusal

-- what a line of the table of refusals finds
pub data Fault : Type 0 where
  none : Fault
  fault : Refusal → Fault

abbrev pub fails : Bool → Refusal → Fault
fails true r = fault r
fails false r = none

-- "places .. name the first one at fault": the first of c things that p finds at fault, as the place of a refusal
abbrev pub fails_at : (ℕ → Refusal) → (p : ℕ → Bool) → (c : ℕ) → Fault
fails_at r p c = fails (ltb (first p 0 c) c) (r (first p 0 c))

-- "The lowest number that applies is given": the lines stand in the order in which they decide.
abbrev pub first_fault : List Fault → Fault
first_fault [] = none
first_fault (none ∷ fs) = first_fault fs
first_fault (fault r ∷ fs) = fault r

-- the answer of a call that does its work unless something is at fault
abbrev pub unless : Fault → Answer → Answer
unless none a = a
unless (fault r) a = refused r
