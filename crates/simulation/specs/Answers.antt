-- The relation and the reply, as functions of a table.
use Rattle.std.specs.Prelude.{Bool, List, [], ◌∷◌, map, ℕ, ◌*◌, ◌/◌, ◌%◌, leb, ltb}
use Rattle.games.specs.Game.{at}
use Rattle.games.specs.Play.{count}
use Rattle.games.specs.Reply.{pick}
use Rattle.games.specs.Settle.{Outcome, ascending, settle}
use Rattle.automaton.specs.declared.Mode.{Mode}
use Rattle.automaton.specs.declared.Refusal.TheVariants.{SpoilerPosition, LostPosition, NoMove}
use Rattle.automaton.specs.Answer.{Answer, valued, Fault, none, fault, fails, first_fault, unless}
use Rattle.automaton.specs.Board.{Board}
use Rattle.simulation.specs.Moves.{targets}
use Rattle.simulation.specs.Position.{Position, spoiler, duplicator, number, position}
use Rattle.simulation.specs.Rules.{bit, ceiling, game, reply, beginning}
use Rattle.simulation.specs.Won.{Choices}

-- the table and the raises of "settle"
abbrev pub settled : Board → Mode → Outcome
settled B m = settle (game B m)

-- ---- "Relation: from a table at rest, n² bytes, 1 where the pair's beginning is below T; value is the count of ones."

-- is the pair's beginning below T?
abbrev pub below : Board → Mode → (table : List ℕ) → (q r : ℕ) → Bool
below B m t q r = ltb (at t (number B m (beginning B m q r))) (ceiling B m)

-- byte q·n + q' is that of the pair (q,q')
abbrev pub byte_at : Board → Mode → (table : List ℕ) → (i : ℕ) → ℕ
byte_at B m t i = bit (below B m t (i / B.n) (i % B.n))

abbrev pub relation : Board → Mode → (table : List ℕ) → List ℕ
relation B m t = map (byte_at B m t) (ascending 0 (B.n * B.n))

abbrev pub related : Board → Mode → (table : List ℕ) → ℕ
related B m t = count (byte_at B m t) (B.n * B.n)

-- ---- "the reply .. is the lowest numbered r' among moves to the least entry"

-- the entry that Blue's move to r' leads to
abbrev pub entry_after : Board → Mode → (table : List ℕ) → (b q r' : ℕ) → ℕ
entry_after B m t b q r' = at t (number B m (reply B m b q r'))

-- The moves ascend, so the first of the least is the lowest numbered.
abbrev pub replies : Board → Mode → (table : List ℕ) → Choices
replies B m t b q r a = pick (entry_after B m t b q) (targets B r a)

-- where Blue can move, and where it moves; at a Spoiler's position it is not Blue's turn
abbrev pub blue_moves : Board → Position → List ℕ
blue_moves B (spoiler b q r) = []
blue_moves B (duplicator b q r a) = targets B r a

abbrev pub blue_reply : Board → Mode → (table : List ℕ) → Position → ℕ
blue_reply B m t (spoiler b q r) = 0
blue_reply B m t (duplicator b q r a) = replies B m t b q r a

-- 13: "reply at a Spoiler position"
abbrev pub turn_fault : Position → Fault
turn_fault (spoiler b q r) = fault SpoilerPosition
turn_fault (duplicator b q r a) = none

-- 14: "reply at a lost position"
abbrev pub lost_fault : (T entry : ℕ) → Fault
lost_fault T entry = fails (leb T entry) LostPosition

-- 15: "reply where the entry is below T and Blue has no move"
abbrev pub move_fault : (targets : List ℕ) → Fault
move_fault [] = fault NoMove
move_fault (x ∷ xs) = none

-- the answer at position v of a table at rest: refusals 13 to 15, else "the state for Blue"
abbrev pub reply_on : Board → Mode → (table : List ℕ) → (v : ℕ) → Position → Answer
reply_on B m t v p = unless (first_fault (turn_fault p ∷ lost_fault (ceiling B m) (at t v) ∷ move_fault (blue_moves B p) ∷ [])) (valued (blue_reply B m t p))

abbrev pub reply_at : Board → Mode → (table : List ℕ) → (v : ℕ) → Answer
reply_at B m t v = reply_on B m t v (position B m v)
