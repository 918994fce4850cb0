-- What an accepted `quotient` merges: the classes are those of the states that win against each other, and the bytes written are the quotient.
use Rattle.std.proofs.Common.{◌≡◌, refl, sym, ap, ◌∙◌, subst, ◌↔◌, true, List, ◌++◌, ℕ, ◌*◌, ◌-◌, ◌/◌, ◌<◌, arith, length, get_or, take, replicate, take_at, eqb-true, eq-eqb}
use mathlib.Core.Logic.Iff
use Rattle.automaton.specs.declared.Mode.{Mode}
use Rattle.automaton.specs.Board.{Board, Formed, accepts}
use Rattle.automaton.specs.Effect.{Effect}
use Rattle.simulation.specs.Answers.{settled}
use Rattle.simulation.specs.Moves.{Moves}
use Rattle.simulation.specs.Quotient.{equal, chief, class_of, class_count, class_marks, class_moves, quotient_of, Image}
use Rattle.simulation.specs.Won.{WonPair}
use Rattle.simulation.proofs.Listed.{listed_length}
use Rattle.simulation.proofs.Moves.{move-within}
use Rattle.simulation.proofs.Relation.{settled-least}
use Rattle.laws.proofs.Equal.{equal_equivalence, class_won}
use Rattle.laws.proofs.Images.{quotient-moves, moves_long}
use Rattle.laws.specs.Equivalence.{Equivalence}
use Rattle.laws.proofs.Classes.{chief_by-most}
use Rattle.laws.proofs.Quotient.{class_below, class_order, class_onto, quotient-formed, mark-is}
use Rattle.arena.specs.Job.{Job, mode_of}
use Rattle.quotient.specs.Calls.{Buffers, Mergeable, merging, quotienting, written}
use Rattle.quotient.proofs.Accepted.{quotient-accepted, quotient-does}
use Rattle.classing.proofs.Bytes.{class_at}

-- what was written reads back as the quotient by the table
written_is : (B : Board) (m : Mode) (start : ℕ) (t : List ℕ) → written B.k (merging B m start t) ≡ quotient_of B m t
written_is B m start t =
    let moves = class_moves B m t in
    let whole : length moves / 3 * 3 ≡ length moves = omega (arith, moves_long B m t) in
    λ i. record {
      n = class_count B m t;
      k = B.k;
      marks = take_at (class_marks B m t) (replicate (B.n - length (class_marks B m t)) 255) (class_count B m t) (listed_length _ 0 (class_count B m t)) i;
      moves = (ap (λ (c : ℕ). take c (moves ++ replicate (length B.moves - length moves) 255)) whole ∙ take_at moves (replicate (length B.moves - length moves) 255) (length moves) refl) i;
    }

module _ (j : Job) (x : Buffers) (accepted : (quotienting j x).answer.number ≡ 0) where
  abbrev B : Board
  B = j.board

  abbrev m : Mode
  m = mode_of j.mode

  -- the settled table
  abbrev t : List ℕ
  t = (settled B m).table

  does : quotienting j x ≡ merging B m j.start t
  does = let (f, o, s) = (quotient-accepted j x).0 accepted in quotient-does j x f o s

  formed : Formed B
  formed = ((quotient-accepted j x).0 accepted).0.0.0

  pub merged_mode : Mergeable j.mode
  merged_mode = ((quotient-accepted j x).0 accepted).1

  -- the class of a state, as it was written
  abbrev pub class : ℕ → ℕ
  class q = get_or (quotienting j x).left.classes q 0

  class_is : (q : ℕ) → q < B.n → class q ≡ class_of B m t q
  class_is q h = ap (λ (e : Effect Buffers). get_or e.left.classes q 0) does ∙ class_at B m t q h

  pub merged_won : (q r : ℕ) → q < B.n → r < B.n → (class q ≡ class r) ↔ (WonPair B m q r × WonPair B m r q)
  merged_won q r h l =
      Iff.trans (λ e. sym (class_is q h) ∙ e ∙ class_is r l, λ e. class_is q h ∙ e ∙ sym (class_is r l)) (class_won B formed m t (settled-least B m) q r h l)

  -- "Classes are numbered 0, 1 and on": the numbers below the count, and no others
  count_is : get_or (quotienting j x).answer.values 0 0 ≡ class_count B m t
  count_is = ap (λ (e : Effect Buffers). get_or e.answer.values 0 0) does

  equals : Equivalence B.n (equal B m t)
  equals = equal_equivalence B formed m t (settled-least B m)

  pub merged_below : (q : ℕ) → q < B.n → class q < get_or (quotienting j x).answer.values 0 0
  merged_below q h = omega (arith, class_is q h, count_is, class_below B m t equals q h)

  -- "in the order of their least members"
  pub merged_order : (c d : ℕ) → c < d → d < get_or (quotienting j x).answer.values 0 0 → (q : ℕ) × (q < B.n) × (class q ≡ c) × ((r : ℕ) → r < B.n → class r ≡ d → q < r)
  merged_order c d l h =
      let (q, i, lead, e) = class_onto B m t c (omega (arith, count_is)) in
      (q, i, class_is q i ∙ e, λ r k s. lower q i lead r k (sym (class_is q i ∙ e)) (sym (class_is r k) ∙ s))
    where
      lower : (q : ℕ) → q < B.n → chief B m t q ≡ q → (r : ℕ) → r < B.n → c ≡ class q → class_of B m t r ≡ d → q < r
      lower q i lead r k e s =
          let less : chief B m t q < chief B m t r = (class_order B m t equals q r i k).1 (omega (arith, class_is q i)) in
          omega (arith, lead, chief_by-most (equal B m t) r)

  read_back : written B.k (quotienting j x) ≡ quotient_of B m t
  read_back = ap (written B.k) does ∙ written_is B m j.start t

  pub merged_formed : Formed (written B.k (quotienting j x))
  merged_formed = subst Formed (sym read_back) (quotient-formed B m t equals formed)

  pub merged_moves : (c a d : ℕ) → Moves (written B.k (quotienting j x)) c a d
      ↔ ((q : ℕ) × (r : ℕ) × Moves B q a r × (class q ≡ c) × (class r ≡ d))
  merged_moves c a d = Iff.trans (λ k. (quotient-moves B m t formed c a d).0 (subst (λ (Q : Board). Moves Q c a d) read_back k), λ k. subst (λ (Q : Board). Moves Q c a d) (sym read_back) ((quotient-moves B m t formed c a d).1 k)) (there, back)
    where
      there : Image B m t c a d → (q : ℕ) × (r : ℕ) × Moves B q a r × (class q ≡ c) × (class r ≡ d)
      there (q, r, k, e, f) = let (h, l, i) = move-within B formed q a r k in (q, r, k, class_is q h ∙ e, class_is r i ∙ f)

      back : (q : ℕ) × (r : ℕ) × Moves B q a r × (class q ≡ c) × (class r ≡ d) → Image B m t c a d
      back (q, r, k, e, f) = let (h, l, i) = move-within B formed q a r k in (q, r, k, sym (class_is q h) ∙ e, sym (class_is r i) ∙ f)

  pub merged_marks : (c : ℕ) → c < get_or (quotienting j x).answer.values 0 0
      → (accepts (written B.k (quotienting j x)) c ≡ true) ↔ ((q : ℕ) × (q < B.n) × (class q ≡ c) × (accepts B q ≡ true))
  merged_marks c h = (λ e. there ((mark-is B m t c below).0 (eqb-true _ 1 (subst (λ (Q : Board). accepts Q c ≡ true) read_back e))), λ k. subst (λ (Q : Board). accepts Q c ≡ true) (sym read_back) (eq-eqb _ 1 ((mark-is B m t c below).1 (back k))))
    where
      below : c < class_count B m t
      below = subst (λ (e : Effect Buffers). c < get_or e.answer.values 0 0) does h

      there : (q : ℕ) × (q < B.n) × (class_of B m t q ≡ c) × (accepts B q ≡ true) → (q : ℕ) × (q < B.n) × (class q ≡ c) × (accepts B q ≡ true)
      there (q, l, e, a) = (q, l, class_is q l ∙ e, a)

      back : (q : ℕ) × (q < B.n) × (class q ≡ c) × (accepts B q ≡ true) → (q : ℕ) × (q < B.n) × (class_of B m t q ≡ c) × (accepts B q ≡ true)
      back (q, l, e, a) = (q, l, sym (class_is q l) ∙ e, a)

  pub merged_start : get_or (quotienting j x).answer.values 2 0 ≡ class j.start
  merged_start = ap (λ (e : Effect Buffers). get_or e.answer.values 2 0) does ∙ sym (class_is j.start ((quotient-accepted j x).0 accepted).0.0.1)
