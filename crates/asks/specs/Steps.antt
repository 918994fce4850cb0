-- The steps from a position as a stretch of the moves: where each leads, and which stretch a position has.
-- Functions below the calls promise it to each other; no public promise cites it.
use Rattle.std.specs.Prelude.{true, cond, List, map, ℕ, ◌+◌, ◌*◌, ◌-◌, ◌≤◌, ◌<◌, eqb, length, get_or}
use Rattle.games.specs.Settle.{ascending}
use Rattle.automaton.specs.Board.{letter, to}
use Rattle.simulation.specs.Rules.{pended, eased}
use Rattle.arena.specs.declared.Arena.{Arena}
use Rattle.asks.specs.declared.steps.Steps.{Steps}

-- the position that move i leads to
abbrev pub spot_of : Steps → (marks moves : List ℕ) → ℕ → ℕ
spot_of s marks ms i = cond (eqb (get_or marks (to ms i) 0) 1) s.marked s.plain + to ms i * s.stride + letter ms i * s.step

-- all that the stretch leads to
abbrev pub ahead : Steps → (marks moves : List ℕ) → List ℕ
ahead s marks ms = map (spot_of s marks ms) (ascending s.lo (s.hi - s.lo))

-- it is a stretch of the moves, and leads to numbers below P
pub record Leading (s : Steps) (marks moves : List ℕ) (P : ℕ) : Type 0 where
  pub order : s.lo ≤ s.hi
  pub inside : s.hi * 3 ≤ length moves
  pub goals : (i : ℕ) → s.lo ≤ i → i < s.hi → to moves i < length marks
  pub spots : (i : ℕ) → s.lo ≤ i → i < s.hi → spot_of s marks moves i < P

-- from Spoiler's (b,q,r): the moves from q
abbrev pub spoiler_steps : Arena → (begins : List ℕ) → (b q r : ℕ) → Steps
spoiler_steps g begins b q r =
    let row = q * g.letters in
    let base = g.pairs + r * g.letters in
    let square = g.states * g.states in
    record {
      lo = get_or begins row 0;
      hi = get_or begins (row + g.letters) 0;
      plain = base + b * square * g.letters;
      marked = base + pended g.mode true b * square * g.letters;
      stride = g.states * g.letters;
      step = 1;
    }

-- from Duplicator's (b,q,r,a): the moves from r by a
abbrev pub duplicator_steps : Arena → (begins : List ℕ) → (b q r a : ℕ) → Steps
duplicator_steps g begins b q r a =
    let key = r * g.letters + a in
    let base = q * g.states in
    let square = g.states * g.states in
    record {
      lo = get_or begins key 0;
      hi = get_or begins (key + 1) 0;
      plain = base + b * square;
      marked = base + eased g.mode true b * square;
      stride = 1;
      step = 0;
    }
