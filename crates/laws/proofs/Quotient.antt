-- The laws of the quotient: its classes and their order, its marks, and that it is a board as document 01 asks for.
use mathlib.Core.Path.{◌≡◌, refl, sym, ap, ◌∙◌, subst}
use mathlib.Core.Logic.{◌↔◌}
use mathlib.Core.Bool.{Bool, true, ◌&&◌, and-eq-true_iff}
use mathlib.Core.List.{List}
use Prim.Native.Nat.{ℕ, ◌≤◌, ◌<◌}
use native.Mathlib.Nat.{le_trans, zero-add}
use native.Mathlib.Omega.{arith}
use lib.Dec.{eqb}
use lib.ListN.{length, get_or}
use borrow.Author.Tests.{eq-eqb, eqb-true}
use Rattle.automaton.specs.declared.Mode.{Mode}
use Rattle.automaton.specs.Board.{Board, Formed, accepts, from, letter, to}
use Rattle.automaton.specs.First.{some}
use Rattle.automaton.proofs.First.{some_is}
use Rattle.simulation.specs.Quotient.{equal, chief, class_of, class_count, mark_of, class_marks, class_moves, quotient_of, Image}
use Rattle.simulation.proofs.Listed.{map_at, listed_length, bit-most, bit-one}
use Rattle.laws.specs.Equivalence.{Equivalence}
use Rattle.laws.proofs.Classes.{chief_by-equal, chief_by-least, classes-few, class_by-same, class_by-order, class_by_lt, class_by-onto}
use Rattle.laws.proofs.Images.{moves_long, moves_ascend, quotient-moves}

-- ---- of any table

module _ (B : Board) (m : Mode) (t : List ℕ) where
  -- there are no more classes than states
  pub classes-most : class_count B m t ≤ B.n
  classes-most = classes-few (equal B m t) B.n

  -- every number below the count of classes is a class's, that of its chief
  pub class_onto : (c : ℕ) → c < class_count B m t → (q : ℕ) × (q < B.n) × (chief B m t q ≡ q) × (class_of B m t q ≡ c)
  class_onto = class_by-onto (equal B m t) B.n

  -- no state that equals q is below its chief
  pub chief-least : (q r : ℕ) → equal B m t q r ≡ true → chief B m t q ≤ r
  chief-least = chief_by-least (equal B m t)

  -- q is a member of class c that accepts
  abbrev marking : (c q : ℕ) → Bool
  marking c q = eqb (class_of B m t q) c && accepts B q

  -- mark c is that of class c
  mark-at : (c : ℕ) → c < class_count B m t → get_or (class_marks B m t) c 0 ≡ mark_of B m t c
  mark-at c l = map_at (mark_of B m t) 0 (class_count B m t) c l ∙ ap (mark_of B m t) (zero-add c)

  -- "one a class"
  marks-long : length (class_marks B m t) ≡ class_count B m t
  marks-long = listed_length (mark_of B m t) 0 (class_count B m t)

  -- "1 if some member accepts"
  pub mark-is : (c : ℕ) → c < class_count B m t → (get_or (class_marks B m t) c 0 ≡ 1) ↔ ((q : ℕ) × (q < B.n) × (class_of B m t q ≡ c) × (accepts B q ≡ true))
  mark-is c l =
      let one = bit-one (some (marking c) B.n) in
      let member = some_is (marking c) B.n in (
        λ e.
            let (q, h, x) = member.0 (one.0 (sym (mark-at c l) ∙ e)) in
            let (y, z) = (and-eq-true_iff (eqb (class_of B m t q) c) (accepts B q)).0 x in
            (q, h, eqb-true (class_of B m t q) c y, z),
        λ k.
            let (q, h, e, a) = k in
            mark-at c l ∙ one.1 (member.1 (q, h, (and-eq-true_iff (eqb (class_of B m t q) c) (accepts B q)).1 (eq-eqb (class_of B m t q) c e, a))),
      )

-- ---- where being equal is an equivalence

module _ (B : Board) (m : Mode) (t : List ℕ) (E : Equivalence B.n (equal B m t)) where
  -- one class exactly if equal
  pub class_same : (q r : ℕ) → q < B.n → r < B.n → (class_of B m t q ≡ class_of B m t r) ↔ (equal B m t q r ≡ true)
  class_same = class_by-same (equal B m t) B.n E

  -- "Classes are numbered 0, 1 and on": each is below their count
  pub class_below : (q : ℕ) → q < B.n → class_of B m t q < class_count B m t
  class_below = class_by_lt (equal B m t) B.n E

  -- "in the order of their least members"
  pub class_order : (q r : ℕ) → q < B.n → r < B.n → (chief B m t q < chief B m t r) ↔ (class_of B m t q < class_of B m t r)
  class_order = class_by-order (equal B m t) B.n E

  -- the chief of a class is a member of it
  pub chief-equal : (q : ℕ) → q < B.n → equal B m t q (chief B m t q) ≡ true
  chief-equal = chief_by-equal (equal B m t) B.n E

  -- an image stays inside the quotient
  image-inside : Formed B → {c a d : ℕ} → Image B m t c a d → (c < class_count B m t) × (a < B.k) × (d < class_count B m t)
  image-inside F (q, r, (i, l, f, g, h), x, y) =
      let (u, v, w) = F.inside i l in
      (rw (← x, ← f) (class_below (from B.moves i) u), rw (← g) v, rw (← y, ← h) (class_below (to B.moves i) w))

  -- the quotient is an automaton of document 01
  pub quotient-formed : Formed B → Formed (quotient_of B m t)
  quotient-formed F = record {
    states = omega (arith, class_below 0 F.states);
    few = le_trans (classes-most B m t) F.few;
    letters = F.letters;
    few_letters = F.few_letters;
    marked = marks-long B m t;
    binary = λ c l. subst (λ (v : ℕ). v ≤ 1) (sym (mark-at B m t c l)) (bit-most (some (marking B m t c) B.n));
    whole = omega (arith, moves_long B m t);
    inside = λ i l. image-inside F ((quotient-moves B m t F (from (class_moves B m t) i) (letter (class_moves B m t) i) (to (class_moves B m t) i)).0 (i, l, refl, refl, refl));
    order = moves_ascend B m t F;
  }
