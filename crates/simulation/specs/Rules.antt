-- "The steps of the games": where each step leads, what each position asks for, and the game of a board in a mode.
use Rattle.std.specs.Prelude.{Bool, true, false, List, map, ℕ, zero, suc, ◌+◌, ◌*◌, ◌-◌}
use Rattle.games.specs.Game.{Kind, low, high, counting, resetting, idle, lost, Game}
use Rattle.games.specs.Play.{count}
use Rattle.automaton.specs.declared.Mode.{Mode}
use Rattle.automaton.specs.declared.Mode.TheVariants.{Ordinary, Direct, Delayed, Fair}
use Rattle.automaton.specs.Board.{Board, accepts}
use Rattle.simulation.specs.Moves.{Arrow, arrows, targets}
use Rattle.simulation.specs.Position.{Position, spoiler, duplicator, positions, number, position}

-- ---- the steps

-- "in mode 2, b becomes 1 if r accepts and otherwise stays"
abbrev pub pended : Mode → (accepts : Bool) → ℕ → ℕ
pended Ordinary x b = b
pended Direct x b = b
pended Delayed true b = 1
pended Delayed false b = b
pended Fair x b = b

-- "in mode 2, b becomes 0 if r' accepts and otherwise stays"
abbrev pub eased : Mode → (accepts : Bool) → ℕ → ℕ
eased Ordinary x b = b
eased Direct x b = b
eased Delayed true b = 0
eased Delayed false b = b
eased Fair x b = b

-- "From Spoiler's (q,q'), each move (q,a,r) leads to (r,q',a)"
abbrev pub challenge : Board → Mode → (b r : ℕ) → Arrow → Position
challenge B m b r e = duplicator (pended m (accepts B e.goal) b) e.goal r e.by

-- "From Duplicator's (q,q',a), each move (q',a,r') leads to (q,r')"
abbrev pub reply : Board → Mode → (b q r' : ℕ) → Position
reply B m b q r' = spoiler (eased m (accepts B r') b) q r'

abbrev pub steps : Board → Mode → Position → List Position
steps B m (spoiler b q r) = map (challenge B m b r) (arrows B q)
steps B m (duplicator b q r a) = map (reply B m b q) (targets B r a)

-- ---- "The value asked for at a position"

-- Spoiler's, by b, by whether q accepts and by whether q' accepts
abbrev pub turn : Mode → ℕ → (red blue : Bool) → Kind
-- "Mode 0, Spoiler's: High."
turn Ordinary b x y = high
-- "Mode 1, Spoiler's: T if q accepts and q' does not, else High."
turn Direct b true false = lost
turn Direct b true true = high
turn Direct b false y = high
-- "Mode 2, Spoiler's, b = 0: T if High is T, else 0."
turn Delayed zero x y = resetting
-- "With b = 1 and q' not accepting: the lesser of High+1 and T."
turn Delayed (suc zero) x false = counting
-- "With b = 1 and q' accepting the position is idle: 0."
turn Delayed (suc zero) x true = idle
-- no position has another b
turn Delayed (suc (suc b)) x y = high
-- "Mode 3, Spoiler's: if q' accepts, T if High is T, else 0; if q accepts and q' does not, the lesser of High+1 and T; else High."
turn Fair b x true = resetting
turn Fair b true false = counting
turn Fair b false false = high

-- "Duplicator's, every mode: Low."
abbrev pub kind_of : Board → Mode → Position → Kind
kind_of B m (spoiler b q r) = turn m b (accepts B q) (accepts B r)
kind_of B m (duplicator b q r a) = low

-- ---- the ceiling, and the game

abbrev pub bit : Bool → ℕ
bit true = 1
bit false = 0

-- "f is the count of ones"
abbrev pub ones : Board → ℕ
ones B = count (λ q. bit (accepts B q)) B.n

-- "T = 1 in modes 0 and 1, n(n-f)+1 in mode 2 .., f(n-f)+1 in mode 3"
abbrev pub ceiling : Board → Mode → ℕ
ceiling B Ordinary = 1
ceiling B Direct = 1
ceiling B Delayed = B.n * (B.n - ones B) + 1
ceiling B Fair = ones B * (B.n - ones B) + 1

abbrev pub game : Board → Mode → Game
game B m = record {
  P = positions B m;
  T = ceiling B m;
  next = λ v. map (number B m) (steps B m (position B m v));
  kind = λ v. kind_of B m (position B m v);
}

-- "The pair (q,q') begins at Spoiler's (q,q'); in mode 2 with b = 1 if q accepts and q' does not, else b = 0."
abbrev pub owed : Mode → (red blue : Bool) → ℕ
owed Ordinary x y = 0
owed Direct x y = 0
owed Delayed true false = 1
owed Delayed true true = 0
owed Delayed false y = 0
owed Fair x y = 0

abbrev pub beginning : Board → Mode → (q r : ℕ) → Position
beginning B m q r = spoiler (owed m (accepts B q) (accepts B r)) q r
