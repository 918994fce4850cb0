-- The sorts of tokens, told apart.
use Rattle.std.specs.Prelude.{Bool, true, false, ◌&&◌, ℕ, eqb}
use Rattle.tokens.specs.declared.Sort.{Sort}
use Rattle.tokens.specs.declared.Sort.TheVariants as sort

-- the place of a sort among the sorts
abbrev pub index : Sort → ℕ
index (sort.Number v) = 0
index sort.Quoted = 1
index sort.Name = 2
index sort.True = 3
index sort.False = 4
index sort.Version = 5
index sort.Inf = 6
index sort.Not = 7
index sort.And = 8
index sort.Or = 9
index sort.Group = 10
index sort.GroupEnd = 11
index sort.Label = 12
index sort.LabelEnd = 13
index sort.Marks = 14
index sort.MarksEnd = 15
index sort.Hoa = 16
index sort.States = 17
index sort.Start = 18
index sort.Ap = 19
index sort.Acceptance = 20
index sort.State = 21
index sort.Minor = 22
index sort.Body = 23
index sort.End = 24
index sort.Nothing = 25
index sort.Wrong = 26

-- the value of a number
abbrev pub value : Sort → ℕ
value (sort.Number v) = v
value _ = 0

-- are two sorts the same?
abbrev pub is : Sort → Sort → Bool
is a b = eqb (index a) (index b) && eqb (value a) (value b)

-- a number, a text in quotes or a word
abbrev pub plain : Sort → Bool
plain (sort.Number v) = true
plain sort.Quoted = true
plain sort.Name = true
plain sort.True = true
plain sort.False = true
plain sort.Version = true
plain sort.Inf = true
plain _ = false

-- does a token of this sort stand in the text?
abbrev pub stands : Sort → Bool
stands sort.Nothing = false
stands sort.Wrong = false
stands _ = true
