-- The quotient's moves are the images of the moves, strictly ascending. Each is read back by division from its number.
use mathlib.Core.Path.{◌≡◌, refl, sym, ap, ◌∙◌}
use mathlib.Core.Logic.{◌↔◌}
use mathlib.Core.List.{List}
use Prim.Native.Nat.{ℕ, suc, ◌+◌, ◌*◌, ◌/◌, ◌%◌, ◌<◌}
use native.Mathlib.Omega.{arith}
use lib.Dec.{eqb}
use lib.ListN.{length}
use borrow.Author.Tests.{eq-eqb, eqb-true}
use Rattle.games.specs.Play.{count}
use Rattle.automaton.specs.declared.Mode.{Mode}
use Rattle.automaton.specs.Board.{Board, Formed, from, letter, to, Above}
use Rattle.automaton.proofs.First.{some_is}
use Rattle.simulation.specs.Moves.{Moves}
use Rattle.simulation.specs.Rules.{bit}
use Rattle.simulation.specs.Quotient.{equal, class_of, triple_by, image_of, reached, class_moves, quotient_of, Image}
use Rattle.laws.proofs.Classes.{class_by-most}
use Rattle.laws.proofs.Triples.{listed-long}
use Rattle.laws.proofs.Numbered.{Reads, number_lt, number_read, numbered_ascend, numbered_is}

module _ (B : Board) (m : Mode) (t : List ℕ) where
  -- a class's number is below n
  pub class_most : (q : ℕ) → q < B.n → class_of B m t q < B.n
  class_most q h = omega (arith, class_by-most (equal B m t) q)

  -- ---- their number and order

  -- three bytes for each triple that some move becomes
  pub moves_long : length (class_moves B m t) ≡ count (λ x. bit (reached B m t x)) (B.n * B.k * B.n) * 3
  moves_long = listed-long (reached B m t) (triple_by B.n B.k) (λ x. refl) (B.n * B.k * B.n)

  -- "sorted, each once": strictly ascending
  pub moves_ascend : Formed B → (i : ℕ) → i * 3 + 5 < length (class_moves B m t)
      → Above (from (class_moves B m t) i) (letter (class_moves B m t) i) (to (class_moves B m t) i) (from (class_moves B m t) (suc i)) (letter (class_moves B m t) (suc i)) (to (class_moves B m t) (suc i))
  moves_ascend F = numbered_ascend B.n B.k (reached B m t) (B.n * B.k * B.n) F.states F.letters

  -- ---- images

  module _ (F : Formed B) where
    -- the number of a move's image is in range
    image_lt : (i : ℕ) → i * 3 + 2 < length B.moves → image_of B m t i < B.n * B.k * B.n
    image_lt i l =
        let (f, a, g) = F.inside i l in
        number_lt B.n B.k (class_most (from B.moves i) f) a (class_most (to B.moves i) g)

    -- and its triple is the image
    image-read : (i : ℕ) → i * 3 + 2 < length B.moves → Reads B.n B.k (image_of B m t i) (class_of B m t (from B.moves i)) (letter B.moves i) (class_of B m t (to B.moves i))
    image-read i l =
        let (f, a, g) = F.inside i l in
        number_read B.n B.k (class_of B m t (from B.moves i)) a (class_most (to B.moves i) g)

    -- a move of the quotient is an image
    move-image : (c a d : ℕ) → Moves (quotient_of B m t) c a d → Image B m t c a d
    move-image c a d k =
        let (x, h, e, (u, v, w)) = (numbered_is B.n B.k (reached B m t) (B.n * B.k * B.n) c a d).0 k in
        let (j, l, b) = (some_is (λ j. eqb (image_of B m t j) x) (length B.moves / 3)).0 e in
        let s : image_of B m t j ≡ x = eqb-true (image_of B m t j) x b in
        let o : j * 3 + 2 < length B.moves = omega arith in
        let (f, y, g) = image-read j o in (
          from B.moves j,
          to B.moves j,
          (j, o, refl, sym y ∙ ap (λ (z : ℕ). z / B.n % B.k) s ∙ v, refl),
          sym f ∙ ap (λ (z : ℕ). z / B.n / B.k) s ∙ u,
          sym g ∙ ap (λ (z : ℕ). z % B.n) s ∙ w,
        )

    -- and an image is one of its moves
    image-move : (c a d : ℕ) → Image B m t c a d → Moves (quotient_of B m t) c a d
    image-move c a d (q, r, (j, l, f, g, h), u, v) =
        let (x, y, z) = image-read j l in
        let e = (some_is (λ i. eqb (image_of B m t i) (image_of B m t j)) (length B.moves / 3)).1 (j, omega arith, eq-eqb (image_of B m t j) (image_of B m t j) refl) in
        (numbered_is B.n B.k (reached B m t) (B.n * B.k * B.n) c a d).1
        (image_of B m t j, image_lt j l, e, (x ∙ ap (class_of B m t) f ∙ u, y ∙ g, z ∙ ap (class_of B m t) h ∙ v))

    -- "the moves with each state replaced by its class"
    pub quotient-moves : (c a d : ℕ) → Moves (quotient_of B m t) c a d ↔ Image B m t c a d
    quotient-moves c a d = (move-image c a d, image-move c a d)
