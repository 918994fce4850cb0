-- The states whose entries have risen, as Duplicator sees them.
-- Functions below the calls promise it to each other; no public promise cites it.
use Rattle.std.specs.Prelude.{◌⊎◌, ℕ}
use Rattle.words.specs.Word.{In}

-- r holds the members of one word that are in `others`, and those of a second that are in `acc`
pub record Fresh (acc others one second r : ℕ) : Type 0 where
  pub from : (x : ℕ) → In x r → In x others ⊎ In x acc
  pub plain : (x : ℕ) → In x one → In x others → In x r
  pub marked : (x : ℕ) → In x second → In x acc → In x r
