-- What has risen in a half of a sweep, as sets: Spoiler's entries by rows, and Duplicator's by columns.
-- Functions below the calls promise it to each other; no public promise cites it.
use Rattle.std.specs.Prelude.{◌≡◌, ◌⊎◌, List, ℕ, ◌+◌, ◌*◌, ◌≤◌, ◌<◌, length}
use Rattle.games.specs.Game.{asked, at}
use Rattle.games.specs.Half.{rose}
use Rattle.words.specs.Word.{dig, In}
use Rattle.automaton.specs.declared.Mode.{Mode}
use Rattle.automaton.specs.Board.{Board}
use Rattle.simulation.specs.Position.{duplicator, layers, pairs, pair, number}
use Rattle.simulation.specs.Rules.{game}

-- Spoiler's half as it goes: the table; word b·n + q of `risen`, the r whose (b,q,r) have risen; word b of `rows`, the q of such rows;
-- and entry b·n + q of `olds`, at most what any entry of the row that has risen was before.
pub record Rising : Type 0 where
  pub table : List ℕ
  pub risen : List ℕ
  pub rows : List ℕ
  pub olds : List ℕ

-- the same, from its four lists
abbrev pub rising : (table risen rows olds : List ℕ) → Rising
rising table risen rows olds = record { table = table; risen = risen; rows = rows; olds = olds }

-- there is a word and an old entry for each row, and a word for each b
pub record Roomy (B : Board) (m : Mode) (s : Rising) : Type 0 where
  pub risen : layers m * B.n ≤ length s.risen
  pub rows : layers m ≤ length s.rows
  pub olds : layers m * B.n ≤ length s.olds

-- (b,q,r) is as it was in t and is not noted, or it has risen since and is
abbrev pub Noted : Board → (t : List ℕ) → Rising → (b q r : ℕ) → Type 0
Noted B t s b q r =
    ((dig (at s.risen (b * B.n + q)) r ≡ 0) × (at s.table (pair B b q r) ≡ at t (pair B b q r)))
    ⊎ (In r (at s.risen (b * B.n + q)) × In q (at s.rows b) × (at t (pair B b q r) < at s.table (pair B b q r)) × (at s.olds (b * B.n + q) ≤ at t (pair B b q r)))

-- all of Spoiler's positions are noted
abbrev pub AllNoted : Board → Mode → (t : List ℕ) → Rising → Type 0
AllNoted B m t s = (b q r : ℕ) → b < layers m → q < B.n → r < B.n → Noted B t s b q r

-- no row has a member
abbrev pub Blank : Board → Mode → (risen : List ℕ) → Type 0
Blank B m risen = (b q r : ℕ) → b < layers m → q < B.n → r < B.n → dig (at risen (b * B.n + q)) r ≡ 0

-- Spoiler's half so far, from t: Duplicator's entries have stayed, an entry that has risen is no more than what t asks for there, and c have risen
pub record Spoiling (B : Board) (m : Mode) (t : List ℕ) (s : Rising) (c : ℕ) : Type 0 where
  pub entries : length s.table ≡ length t
  pub others : (v : ℕ) → pairs B m ≤ v → at s.table v ≡ at t v
  pub due : (v : ℕ) → v < pairs B m → (at s.table v ≡ at t v) ⊎ (at s.table v ≤ asked (game B m) (at t) v)
  pub noted : AllNoted B m t s
  pub count : rose t s.table (length t) ≡ c

-- What a part of Spoiler's half does: entries grow, Duplicator's stay, and what was a half so far with d risen is one with d + c, whatever it began from.
pub record Pushed (B : Board) (m : Mode) (s u : Rising) (c : ℕ) : Type 0 where
  pub entries : length u.table ≡ length s.table
  pub grown : (v : ℕ) → at s.table v ≤ at u.table v
  pub others : (v : ℕ) → pairs B m ≤ v → at u.table v ≡ at s.table v
  pub goes : (t : List ℕ) (d : ℕ) → Spoiling B m t s d → Spoiling B m t u (d + c)

-- a half is under way
abbrev pub Underway : Board → Mode → Rising → Type 0
Underway B m s = (t : List ℕ) × ((d : ℕ) × Spoiling B m t s d)

-- the number of the word for Duplicator's (b,·,r,a)
abbrev pub column : Board → (b r a : ℕ) → ℕ
column B b r a = (b * B.n + r) * B.k + a

-- Duplicator's (b,q,r,a) is marked: q is in its column's word, and r in the word of those columns
abbrev pub Marked : Board → (grown columns : List ℕ) → (b q r a : ℕ) → Type 0
Marked B grown columns b q r a = In q (at grown (column B b r a)) × In r (at columns b)

-- there is a word for each column, and one for each b
pub record Spacious (B : Board) (m : Mode) (grown columns : List ℕ) : Type 0 where
  pub words : layers m * B.n * B.k ≤ length grown
  pub sets : layers m ≤ length columns

-- each of Duplicator's entries that is not as in t is marked
abbrev pub AllMarked : Board → Mode → (t u grown columns : List ℕ) → Type 0
AllMarked B m t u grown columns = (b q r a : ℕ) → b < layers m → q < B.n → r < B.n → a < B.k
    → (at u (number B m (duplicator b q r a)) ≡ at t (number B m (duplicator b q r a))) ⊎ Marked B grown columns b q r a
