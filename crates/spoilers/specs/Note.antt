-- What is noted of an entry that rises.
-- Functions below the calls promise it to each other; no public promise cites it.
use Rattle.std.specs.Prelude.{◌≡◌, ◌⊎◌, Bool, true, false, List, ℕ, ◌≤◌}
use Rattle.games.specs.Game.{at}
use Rattle.words.specs.Word.{dig, In}
use Rattle.halves.specs.Drawn.{Inserted}

-- entry i of u is at most e, and none is greater than in l
pub record Lowered (l u : List ℕ) (i e : ℕ) : Type 0 where
  pub here : at u i ≤ e
  pub less : (j : ℕ) → at u j ≤ at l j

-- of `risen`, `rows` and `olds`, before and after: r was not in row i and is put there, q is put among the rows of b, and the row's old entry is lowered to e
pub record First (ri ro ol ri' ro' ol' : List ℕ) (i b q r e : ℕ) : Type 0 where
  pub out : dig (at ri i) r ≡ 0
  pub risen : Inserted ri i r ri'
  pub rows : Inserted ro b q ro'
  pub olds : Lowered ol ol' i e

-- r was in row i, and nothing is written
pub record Again (ri ro ol ri' ro' ol' : List ℕ) (i r : ℕ) : Type 0 where
  pub held : In r (at ri i)
  pub risen : ri' ≡ ri
  pub rows : ro' ≡ ro
  pub olds : ol' ≡ ol

-- a note, and whether it is the first of this entry
abbrev pub Noting : (ri ro ol ri' ro' ol' : List ℕ) (i b q r e : ℕ) (first : Bool) → Type 0
Noting ri ro ol ri' ro' ol' i b q r e first = ((first ≡ true) × First ri ro ol ri' ro' ol' i b q r e) ⊎ ((first ≡ false) × Again ri ro ol ri' ro' ol' i r)
