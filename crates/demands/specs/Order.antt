-- "Start from a cleared table, one automaton and one mode, with nobody else writing the table.
-- Lift positions one at a time, in any order, repeats and refused calls among them."
-- A job is an automaton and a mode; `lifting` and `clearing` are what the calls `lift` and `clear` are proved to answer and to leave.
use Rattle.std.specs.Prelude.{◌≢◌, List, [], ◌∷◌, ◌++◌, ℕ, ◌+◌, length, take, drop}
use Rattle.automaton.specs.Answer.{value}
use Rattle.arena.specs.Job.{Job}
use Rattle.automaton.specs.Effect.{Effect}
use Rattle.table.specs.Calls.{lifting}

-- one call of `lift`
pub data Call : Type 0 where
  -- of the one automaton and mode, on the whole table, at any position, in range or not
  due : (v : ℕ) → Call
  -- of any automaton, start, mode and position. It is lent the `count` entries of the table that follow the first `skip`,
  -- with any other entries before and behind them.
  stray : (i : Job) → (before behind : List ℕ) → (skip count v : ℕ) → Call

-- the entries of the table that a stray call is lent, all that it is lent, and the table with others in their place
abbrev pub part : (skip count : ℕ) → (table : List ℕ) → List ℕ
part skip count t = take count (drop skip t)

abbrev pub lent : (before behind part : List ℕ) → List ℕ
lent before behind p = before ++ (p ++ behind)

abbrev pub restored : (skip count : ℕ) → (table part : List ℕ) → List ℕ
restored skip count t p = take skip t ++ (p ++ drop count (drop skip t))

-- what stands at that place in a list of the same length as was lent
abbrev pub between : (before part : List ℕ) → (all : List ℕ) → List ℕ
between before p u = take (length p) (drop (length before) u)

-- what a call answers and leaves
abbrev pub effect : Job → (table : List ℕ) → Call → Effect (List ℕ)
effect j t (due v) = lifting j t v
effect j t (stray i before behind skip count v) =
    let p = part skip count t in
    let e = lifting i (lent before behind p) v in
    record { answer = e.answer; left = restored skip count t (between before p e.left) }

-- "refused calls among them": a stray call is one that is refused
abbrev pub Orderly : Job → (table : List ℕ) → Call → Type 0
Orderly j t (due v) = Unit {0}
Orderly j t (stray i before behind skip count v) = (lifting i (lent before behind (part skip count t)) v).answer.number ≢ 0

-- calls one after another: whether all are orderly, the table after them, and how many raised an entry
abbrev pub AllOrderly : Job → (table : List ℕ) → List Call → Type 0
AllOrderly j t [] = Unit {0}
AllOrderly j t (c ∷ cs) = Orderly j t c × AllOrderly j (effect j t c).left cs

abbrev pub after : Job → (table : List ℕ) → List Call → List ℕ
after j t [] = t
after j t (c ∷ cs) = after j (effect j t c).left cs

-- a lift whose entry rose has the value 1
abbrev pub raised : Job → (table : List ℕ) → List Call → ℕ
raised j t [] = 0
raised j t (c ∷ cs) = value (effect j t c).answer + raised j (effect j t c).left cs

-- the positions that the due calls lift
abbrev pub due_positions : List Call → List ℕ
due_positions [] = []
due_positions (due v ∷ cs) = v ∷ due_positions cs
due_positions (stray i before behind skip count v ∷ cs) = due_positions cs
