-- What a part of Spoiler's half asks for, and what a push gives each state.
-- Functions below the calls promise it to each other; no public promise cites it.
use Rattle.std.specs.Prelude.{cond, List, ℕ, suc, ◌≤◌, ◌<◌, min, eqb}
use Rattle.games.specs.Game.{at, asked}
use Rattle.words.specs.Word.{dig, In}
use Rattle.automaton.specs.declared.Mode.{Mode}
use Rattle.automaton.specs.Board.{Board}
use Rattle.simulation.specs.Position.{layers, pairs, pair}
use Rattle.simulation.specs.Rules.{ceiling, game}
use Rattle.arena.specs.declared.game.Game.{Game}
use Rattle.arena.specs.Game.{board, Playable}
use Rattle.halves.specs.Rising.{Rising, Roomy, Underway}
use Rattle.halves.specs.Half.{ruled, challenged}
use Rattle.spoilers.specs.declared.gift.Gift.{Gift}

-- a half is under way in an arena
pub record Raising (g : Game) (s : Rising) : Type 0 where
  pub ready : Playable g s.table
  pub roomy : Roomy (board g) g.arena.mode s
  pub underway : Underway (board g) g.arena.mode s

-- a half that pushes is under way: Duplicator's entries are at most T, and Spoiler's no less than what they ask for with High 0
pub record Working (g : Game) (s : Rising) : Type 0 where
  pub raising : Raising g s
  pub capped : (v : ℕ) → pairs (board g) g.arena.mode ≤ v → at s.table v ≤ ceiling (board g) g.arena.mode
  pub floor : (b q r : ℕ) → b < layers g.arena.mode → q < g.arena.states → r < g.arena.states
      → ruled (board g) g.arena.mode b q r 0 ≤ at s.table (pair (board g) b q r)

-- what state q gets: w if it is in the set, and v if not
abbrev pub given : (bump v w q : ℕ) → ℕ
given bump v w q = cond (eqb (dig bump q) 1) w v

-- what a gift gives state q
abbrev pub dealt : Gift → (q : ℕ) → ℕ
dealt f = given f.bump f.plain f.more

-- what an entry v gives state q if T is top: one more to those of the set, up to T
abbrev pub gives : (bump top v q : ℕ) → ℕ
gives bump top v q = given bump v (min (suc v) top) q

-- each state of the set is one of the automaton, and its (b,q,r) asks for at least what it is given
abbrev pub Hits : Board → Mode → (t : List ℕ) → (b r hit : ℕ) → (gift : ℕ → ℕ) → Type 0
Hits B m t b r hit gift = (q : ℕ) → In q hit → (q < B.n) × (gift q ≤ asked (game B m) (at t) (pair B b q r))

-- each (b,q,r), q in the set, has at least what it is given
abbrev pub Holds : Board → (t : List ℕ) → (b r set : ℕ) → (gift : ℕ → ℕ) → Type 0
Holds B t b r set gift = (q : ℕ) → In q set → gift q ≤ at t (pair B b q r)

-- Spoiler's (b,q,r) has at least what it asks for by its step to x by a
abbrev pub Heeded : Board → Mode → (t : List ℕ) → (b q r a x : ℕ) → Type 0
Heeded B m t b q r a x = ruled B m b q r (at t (challenged B m b r x a)) ≤ at t (pair B b q r)
