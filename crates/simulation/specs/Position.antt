-- "Positions and the table": the positions of each mode, and their numbers.
use Rattle.std.specs.Prelude.{Bool, true, false, ℕ, ◌+◌, ◌*◌, ◌-◌, ◌/◌, ◌%◌, ◌<◌, ltb}
use Rattle.automaton.specs.declared.Mode.{Mode}
use Rattle.automaton.specs.declared.Mode.TheVariants.{Ordinary, Direct, Delayed, Fair}
use Rattle.automaton.specs.Board.{Board}

-- "Red stands on q and is moved by Spoiler; Blue stands on q' and is moved by Duplicator."
-- "Mode 2 adds a bit b, 1 while an obligation is pending"; in the other modes b is 0. Blue's q' is written r here.
pub data Position : Type 0 where
  spoiler : (b q r : ℕ) → Position
  duplicator : (b q r a : ℕ) → Position

-- how many values b has
abbrev pub layers : Mode → ℕ
layers Ordinary = 1
layers Direct = 1
layers Delayed = 2
layers Fair = 1

-- the number of Spoiler's positions: n², and 2n² in mode 2
abbrev pub pairs : Board → Mode → ℕ
pairs B m = layers m * (B.n * B.n)

-- "P = n²(1+k) positions"; mode 2 "has P = 2n²(1+k)"
abbrev pub positions : Board → Mode → ℕ
positions B m = pairs B m * (1 + B.k)

-- b·n² + q·n + q'
abbrev pub pair : Board → (b q r : ℕ) → ℕ
pair B b q r = b * (B.n * B.n) + q * B.n + r

-- "Spoiler's is b·n² + q·n + q'; Duplicator's is 2n² + (b·n² + q·n + q')·k + a", and n² for 2n² in the other modes, where b is 0
abbrev pub number : Board → Mode → Position → ℕ
number B m (spoiler b q r) = pair B b q r
number B m (duplicator b q r a) = pairs B m + pair B b q r * B.k + a

-- and back, from a number to the parts
abbrev pub spoiler_at : Board → (v : ℕ) → Position
spoiler_at B v = spoiler (v / B.n / B.n) (v / B.n % B.n) (v % B.n)

abbrev pub duplicator_at : Board → (w : ℕ) → Position
duplicator_at B w = duplicator (w / B.k / B.n / B.n) (w / B.k / B.n % B.n) (w / B.k % B.n) (w % B.k)

abbrev pub side : Board → Bool → (v w : ℕ) → Position
side B true v w = spoiler_at B v
side B false v w = duplicator_at B w

abbrev pub position : Board → Mode → ℕ → Position
position B m v = side B (ltb v (pairs B m)) v (v - pairs B m)

-- a position whose parts are in range
abbrev pub Fits : Board → Mode → Position → Type 0
Fits B m (spoiler b q r) = (b < layers m) × (q < B.n) × (r < B.n)
Fits B m (duplicator b q r a) = (b < layers m) × (q < B.n) × (r < B.n) × (a < B.k)
