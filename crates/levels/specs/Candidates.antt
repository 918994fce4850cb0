-- The candidates of a letter: the states r with a move by it to one of a set of states.
-- Functions below the calls promise it to each other; no public promise cites it.
use Rattle.std.specs.Prelude.{◌⊎◌, List, ℕ, ◌+◌, ◌*◌, ◌<◌}
use Rattle.games.specs.Game.{at}
use Rattle.words.specs.Word.{In}

-- r has a move by a to x
abbrev pub Leads : (into : List ℕ) → (k r a x : ℕ) → Type 0
Leads into k r a x = In r (at into (x * k + a))

-- the candidates are those with a move by a to one of the set
pub record Reach (into : List ℕ) (k set a candidates : ℕ) : Type 0 where
  pub from : (r : ℕ) → In r candidates → (x : ℕ) × In x set × Leads into k r a x
  pub all : (r x : ℕ) → In x set → Leads into k r a x → In r candidates

-- for each letter, word a of `found` holds its candidates
abbrev pub Found : (into : List ℕ) → (k set : ℕ) → (found : List ℕ) → Type 0
Found into k set found = (a : ℕ) → a < k → Reach into k set a (at found a)

-- what is left of the candidates: those with no move by a to one of the set
pub record Spared (into : List ℕ) (k set a candidates left : ℕ) : Type 0 where
  pub sub : (r : ℕ) → In r left → In r candidates
  pub off : (r x : ℕ) → In r left → In x set → Leads into k r a x → ⊥
  pub gone : (r : ℕ) → In r candidates → In r left ⊎ ((x : ℕ) × In x set × Leads into k r a x)

-- the same for each letter
abbrev pub AllSpared : (into : List ℕ) → (k set : ℕ) → (found left : List ℕ) → Type 0
AllSpared into k set found left = (a : ℕ) → a < k → Spared into k set a (at found a) (at left a)

-- each candidate of a letter is in the one set
abbrev pub AllIn : (k : ℕ) → (found : List ℕ) → (any : ℕ) → Type 0
AllIn k found any = (a r : ℕ) → a < k → In r (at found a) → In r any
