-- The moves that leave a state.
use Rattle.std.specs.Prelude.{◌≡◌, Bool, true, false, ◌&&◌, List, [], ◌∷◌, ◌++◌, ℕ, ◌+◌, ◌*◌, ◌<◌, eqb, length}
use Rattle.automaton.specs.Board.{Board, from, letter, to}

module _ {X : Type 0} where
  -- the list of x alone, or of nothing
  abbrev pub only : Bool → X → List X
  only true x = x ∷ []
  only false x = []

  -- what f makes of each move, in the order of the moves
  abbrev pub gather : (f : (from letter to : ℕ) → List X) → (moves : List ℕ) → List X
  gather f [] = []
  gather f (x ∷ []) = []
  gather f (x ∷ y ∷ []) = []
  gather f (x ∷ y ∷ z ∷ ms) = f x y z ++ gather f ms

-- the states r of the moves (q,a,r)
abbrev pub targets : Board → (q a : ℕ) → List ℕ
targets B q a = gather (λ x y z. only (eqb x q && eqb y a) z) B.moves

-- a letter, and the state that it leads to
pub record Arrow : Type 0 where
  pub by : ℕ
  pub goal : ℕ

-- the letters a and states r of the moves (q,a,r)
abbrev pub arrows : Board → (q : ℕ) → List Arrow
arrows B q = gather (λ x y z. only (eqb x q) (record { by = y; goal = z })) B.moves

-- (q,a,r) is a move
abbrev pub Moves : Board → (q a r : ℕ) → Type 0
Moves B q a r = (i : ℕ) × (i * 3 + 2 < length B.moves) × (from B.moves i ≡ q) × (letter B.moves i ≡ a) × (to B.moves i ≡ r)
