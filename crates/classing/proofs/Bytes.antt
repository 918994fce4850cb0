-- The bytes of the classes hold the classes: what is read from them are the marks and the moves of the quotient.
use Rattle.std.proofs.Common.{◌≡◌, ap, ◌∙◌, Bool, ◌&&◌, cond, List, [], map, ℕ, ◌+◌, ◌*◌, ◌/◌, ◌≤◌, ◌<◌, mul-le-mul, zero-add, arith, eqb, length, get_or}
use lib.Arith.{digits_lt}
use Rattle.games.specs.Settle.{ascending}
use Rattle.automaton.specs.declared.Mode.{Mode}
use Rattle.automaton.specs.Board.{Board, Formed, accepts, from, to}
use Rattle.automaton.specs.First.{some}
use Rattle.simulation.specs.Rules.{bit}
use Rattle.simulation.specs.Quotient.{class_of, class_count, class_bytes, mark_of, class_marks, triple_by, image_of, reached, class_moves}
use Rattle.simulation.proofs.Listed.{bit_is, map_at, listed_length}
use Rattle.laws.proofs.Images.{class_most}
use Rattle.triples.specs.Triples.{most_triples, triples_in}
use Rattle.triples.proofs.Turns.{some_same, turn-same}
use Rattle.classing.specs.Writing.{mark_in, image_in, Seen, Imaged}

-- ---- the classes

module _ (B : Board) (m : Mode) (t : List ℕ) where
  pub class_at : (q : ℕ) → q < B.n → get_or (class_bytes B m t) q 0 ≡ class_of B m t q
  class_at q l = map_at (class_of B m t) 0 B.n q l ∙ ap (class_of B m t) (zero-add q)

  class_lt : (q : ℕ) → q < B.n → get_or (class_bytes B m t) q 0 < B.n
  class_lt q l = omega (arith, class_at q l, class_most B m t q l)

  pub bytes_length : length (class_bytes B m t) ≡ B.n
  bytes_length = listed_length (class_of B m t) 0 B.n

  module _ (F : Formed B) where
    -- ---- the marks

    mark-is : (c : ℕ) → mark_in B.marks (class_bytes B m t) c ≡ mark_of B m t c
    mark-is c =
        ap (λ (a : ℕ). bit (some (λ q. eqb (get_or (class_bytes B m t) q 0) c && accepts B q) a)) F.marked
        ∙ ap bit (some_same (λ q. eqb (get_or (class_bytes B m t) q 0) c && accepts B q) (λ q. eqb (class_of B m t q) c && accepts B q) B.n (λ q l. ap (λ (x : ℕ). eqb x c && accepts B q) (class_at q l)))

    pub marks_are : map (mark_in B.marks (class_bytes B m t)) (ascending 0 (class_count B m t)) ≡ class_marks B m t
    marks_are = λ i. map (λ c. mark-is c i) (ascending 0 (class_count B m t))

    -- ---- the moves

    -- every number of a triple is below the number at the limits
    triples_most : B.n * B.k * B.n ≤ most_triples
    triples_most = mul-le-mul {n₂ = 1024} {m₂ = 64} (mul-le-mul {n₂ = 64} {m₂ = 16} F.few F.few_letters) F.few

    image-is : (i : ℕ) → i * 3 + 2 < length B.moves → image_in B.n B.k (class_bytes B m t) B.moves i ≡ image_of B m t i
    image-is i l = let (f, a, g) = F.inside i l in simp (class_at (from B.moves i) f, class_at (to B.moves i) g)

    pub imaged : Imaged B.n B.k (class_bytes B m t) B.moves
    imaged = record {
      from_classed = λ i l. omega (arith, bytes_length, (F.inside i l).0);
      to_classed = λ i l. omega (arith, bytes_length, (F.inside i l).2);
      below = λ i l. let (f, a, g) = F.inside i l in omega (arith, digits_lt (digits_lt (class_lt (from B.moves i) f) a) (class_lt (to B.moves i) g), triples_most);
    }

    pub triples_are : (seen : List ℕ) → Seen B.n B.k (class_bytes B m t) B.moves (length B.moves / 3) seen
        → triples_in B.n B.k seen (B.n * B.k * B.n) ≡ class_moves B m t
    triples_are seen marked = turn-same _ _ (B.n * B.k * B.n) (λ x l. ap (λ (s : Bool). cond s (triple_by B.n B.k x) []) (here x l))
      where
        here : (x : ℕ) → x < B.n * B.k * B.n → eqb (get_or seen x 0) 1 ≡ reached B m t x
        here x l =
            ap (λ (b : ℕ). eqb b 1) (marked x (omega (arith, triples_most)))
            ∙ bit_is _
            ∙ some_same _ _ (length B.moves / 3) (λ i j. ap (λ (y : ℕ). eqb y x) (image-is i (omega arith)))
