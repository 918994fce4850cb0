-- What a body that was read is sure to hold.
use Rattle.std.specs.Prelude.{◌≡◌, List, [], ◌∷◌, ℕ, ◌≤◌, ◌<◌, length, get_or}
use Rattle.bodies.specs.declared.Entry.{Entry}
use Rattle.bodies.specs.Body.{Edge, unlisted}

-- every edge leads from one of n states to one of them
unfoldable pub Inside : (n : ℕ) → List Edge → Type 0
Inside n [] = Unit
Inside n (e ∷ es) = (e.from < n) × (e.to < n) × Inside n es

-- the sheet has an entry for each number that a state can have, and lists none but the n states; the edges are inside
pub record Sound (n : ℕ) (sheet : List Entry) (es : List Edge) : Type 0 where
  pub long : length sheet ≡ 65536
  pub beyond : (q : ℕ) → n ≤ q → get_or sheet q unlisted ≡ unlisted
  pub inside : Inside n es
