-- Classes of an equivalence on the numbers below n, numbered 0, 1 and on in the order of their least members.
use mathlib.Core.Path.{◌≡◌, sym, ap, ◌∙◌, subst}
use mathlib.Core.Logic.{◌↔◌}
use mathlib.Core.Bool.{Bool, true, true≢false}
use Prim.Native.Nat.{ℕ, ◌≤◌, ◌<◌}
use native.Mathlib.Nat.{le_antisymm, le_trans}
use native.Mathlib.Omega.{arith}
use native.Mathlib.Decide.{dec_lt}
use lib.Dec.{eqb}
use borrow.Author.Tests.{eq-eqb, eqb-true}
use Rattle.games.specs.Play.{count}
use Rattle.games.proofs.Count.{count_less, count_most, count-onto}
use Rattle.automaton.proofs.First.{first-lowest}
use Rattle.simulation.specs.Quotient.{chief_by, leads, class_by}
use Rattle.simulation.specs.Rules.{bit}
use Rattle.simulation.proofs.Listed.{bit-most, bit-one}
use Rattle.laws.specs.Equivalence.{Equivalence}

module _ (e : ℕ → ℕ → Bool) where
  -- ---- of any e

  -- the mark of a least member is 0 or 1
  leads-most : (u : ℕ) → leads e u ≤ 1
  leads-most u = bit-most (eqb (chief_by e u) u)

  -- and 1 exactly for one that leads itself
  leads-is : (u : ℕ) → (leads e u ≡ 1) ↔ (chief_by e u ≡ u)
  leads-is u = (λ d. eqb-true (chief_by e u) u ((bit-one (eqb (chief_by e u) u)).0 d), λ d. ap bit (eq-eqb (chief_by e u) u d))

  -- a chief is not above its members
  pub chief_by-most : (q : ℕ) → chief_by e q ≤ q
  chief_by-most q = omega (arith, (first-lowest (e q) 0 q).most)

  -- nor above any number that equals one of them
  pub chief_by-least : (q u : ℕ) → e q u ≡ true → chief_by e q ≤ u
  chief_by-least q u x = go (dec_lt u (chief_by e q))
    where
      go : Dec (u < chief_by e q) → chief_by e q ≤ u
      go (yes l) = absurd (true≢false (sym x ∙ (first-lowest (e q) 0 q).before u (omega arith) l))
      go (no l) = omega arith

  -- a class's number is not above its members
  pub class_by-most : (q : ℕ) → class_by e q ≤ q
  class_by-most q = le_trans (count_most (leads e) leads-most (chief_by e q)) (chief_by-most q)

  -- there are no more classes than numbers
  pub classes-few : (n : ℕ) → count (leads e) n ≤ n
  classes-few n = count_most (leads e) leads-most n

  -- and every number below their count is a class's, that of its least member
  pub class_by-onto : (n c : ℕ) → c < count (leads e) n → (q : ℕ) × (q < n) × (chief_by e q ≡ q) × (class_by e q ≡ c)
  class_by-onto n c l =
      let (u, i, x, y) = count-onto (leads e) leads-most n c l in
      let d = (leads-is u).0 x in
      (u, i, d, ap (count (leads e)) d ∙ y)

  -- ---- of an equivalence

  module _ (n : ℕ) (E : Equivalence n e) where
    -- a chief is one of the numbers below n
    chief_by_lt : (q : ℕ) → q < n → chief_by e q < n
    chief_by_lt q h = omega (arith, chief_by-most q)

    -- and a member of the class that it leads
    pub chief_by-equal : (q : ℕ) → q < n → e q (chief_by e q) ≡ true
    chief_by-equal q h = go (dec_lt (chief_by e q) q)
      where
        go : Dec (chief_by e q < q) → e q (chief_by e q) ≡ true
        go (yes l) = (first-lowest (e q) 0 q).here (omega arith)
        go (no l) = let d : chief_by e q ≡ q = omega (arith, chief_by-most q) in subst (λ (u : ℕ). e q u ≡ true) (sym d) (E.same q h)

    -- of two equal numbers the first's chief is not above the second's
    chief_by_down : (q r : ℕ) → q < n → r < n → e q r ≡ true → chief_by e q ≤ chief_by e r
    chief_by_down q r h l x = chief_by-least q (chief_by e r) (E.on q r (chief_by e r) h l (chief_by_lt r l) x (chief_by-equal r l))

    -- equal numbers have one chief
    chief_by-same : (q r : ℕ) → q < n → r < n → e q r ≡ true → chief_by e q ≡ chief_by e r
    chief_by-same q r h l x = le_antisymm (chief_by_down q r h l x) (chief_by_down r q l h (E.back q r h l x))

    -- a chief leads itself
    chief_by-leads : (q : ℕ) → q < n → leads e (chief_by e q) ≡ 1
    chief_by-leads q h = (leads-is (chief_by e q)).1 (sym (chief_by-same q (chief_by e q) h (chief_by_lt q h) (chief_by-equal q h)))

    -- a class with a lower chief has a lower number
    class_by_up : (q r : ℕ) → q < n → chief_by e q < chief_by e r → class_by e q < class_by e r
    class_by_up q r h x = count_less (leads e) (chief_by e q) (chief_by e r) x (chief_by-leads q h)

    -- and no other class: the numbers are in the order of the least members
    pub class_by-order : (q r : ℕ) → q < n → r < n → (chief_by e q < chief_by e r) ↔ (class_by e q < class_by e r)
    class_by-order q r h l = (class_by_up q r h, λ x. go x (dec_lt (chief_by e q) (chief_by e r)) (dec_lt (chief_by e r) (chief_by e q)))
      where
        go : class_by e q < class_by e r → Dec (chief_by e q < chief_by e r) → Dec (chief_by e r < chief_by e q) → chief_by e q < chief_by e r
        go x (yes y) z = y
        go x (no y) (yes z) = absurd (omega (arith, class_by_up r q l z))
        go x (no y) (no z) = let d : chief_by e q ≡ chief_by e r = omega arith in absurd (omega (arith, ap (count (leads e)) d))

    -- one class exactly if equal
    pub class_by-same : (q r : ℕ) → q < n → r < n → (class_by e q ≡ class_by e r) ↔ (e q r ≡ true)
    class_by-same q r h l = (λ x. go x (dec_lt (chief_by e q) (chief_by e r)) (dec_lt (chief_by e r) (chief_by e q)), λ x. ap (count (leads e)) (chief_by-same q r h l x))
      where
        join : chief_by e q ≡ chief_by e r → e q r ≡ true
        join d =
            E.on q (chief_by e q) r h (chief_by_lt q h) l (chief_by-equal q h)
            (subst (λ (u : ℕ). e u r ≡ true) (sym d) (E.back r (chief_by e r) l (chief_by_lt r l) (chief_by-equal r l)))

        go : class_by e q ≡ class_by e r → Dec (chief_by e q < chief_by e r) → Dec (chief_by e r < chief_by e q) → e q r ≡ true
        go x (yes y) z = absurd (omega (arith, class_by_up q r h y))
        go x (no y) (yes z) = absurd (omega (arith, class_by_up r q l z))
        go x (no y) (no z) = join (omega arith)

    -- every class's number is below the count of classes
    pub class_by_lt : (q : ℕ) → q < n → class_by e q < count (leads e) n
    class_by_lt q h = count_less (leads e) (chief_by e q) n (chief_by_lt q h) (chief_by-leads q h)
