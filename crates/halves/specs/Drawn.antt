-- The accepting states and the moves as sets of states, each in a word.
-- Functions below the calls promise it to each other; no public promise cites it.
use Rattle.std.specs.Prelude.{◌≡◌, ◌≢◌, List, ℕ, ◌+◌, ◌*◌, ◌≤◌, ◌<◌, length}
use Rattle.games.specs.Game.{at}
use Rattle.words.specs.Word.{dig, In, With}
use Rattle.automaton.specs.Board.{Board, accepts}
use Rattle.simulation.specs.Moves.{Moves}
use Rattle.simulation.specs.Rules.{bit}

-- the word holds the accepting states, and no other number
pub record Accepting (B : Board) (acc : ℕ) : Type 0 where
  pub each : (q : ℕ) → q < B.n → dig acc q ≡ bit (accepts B q)
  pub states : (q : ℕ) → In q acc → q < B.n

-- word r·k + a holds the states q of the moves (q,a,r)
pub record Into (B : Board) (into : List ℕ) : Type 0 where
  pub room : B.n * B.k ≤ length into
  pub move : (q a r : ℕ) → r < B.n → a < B.k → In q (at into (r * B.k + a)) → Moves B q a r
  pub held : (q a r : ℕ) → Moves B q a r → In q (at into (r * B.k + a))

-- word q·k + a holds the states r of the moves (q,a,r)
pub record Onto (B : Board) (onto : List ℕ) : Type 0 where
  pub room : B.n * B.k ≤ length onto
  pub move : (q a r : ℕ) → q < B.n → a < B.k → In r (at onto (q * B.k + a)) → Moves B q a r
  pub held : (q a r : ℕ) → Moves B q a r → In r (at onto (q * B.k + a))

-- no word has a member
abbrev pub Empty : (sets : List ℕ) → Type 0
Empty sets = (i : ℕ) → at sets i ≡ 0

-- x is put into the set in word i, and no other word changes
pub record Inserted (s : List ℕ) (i x : ℕ) (t : List ℕ) : Type 0 where
  pub words : length t ≡ length s
  pub here : With (at s i) x (at t i)
  pub other : (j : ℕ) → j ≢ i → at t j ≡ at s j
