-- A quotient has no more moves than its automaton: each of them is the image of one of the automaton's.
use mathlib.Core.Path.{◌≡◌, refl, sym}
use mathlib.Core.Logic.{◌≢◌}
use mathlib.Core.List.{List}
use Prim.Native.Nat.{ℕ, zero, suc, ◌+◌, ◌*◌, ◌/◌, ◌≤◌}
use native.Mathlib.Decide.{ℕ_discrete}
use native.Mathlib.Nat.{le_refl}
use native.Mathlib.Omega.{arith}
use borrow.Author.Tests.{ne_eqb}
use lib.Dec.{eqb}
use lib.ListN.{length}
use Rattle.games.specs.Play.{count}
use Rattle.games.proofs.Count.{count_mono, count_none}
use Rattle.automaton.specs.declared.Mode.{Mode}
use Rattle.automaton.specs.Board.{Board}
use Rattle.automaton.specs.First.{some}
use Rattle.simulation.specs.Rules.{bit}
use Rattle.simulation.specs.Quotient.{image_of, class_moves}
use Rattle.simulation.proofs.Listed.{bit-most}
use Rattle.laws.proofs.Images.{moves_long}

-- p is above h at one number y only, and there by 1 at most
count_near : (p h : ℕ → ℕ) (y a : ℕ) → ((x : ℕ) → x ≢ y → p x ≤ h x) → p y ≤ h y + 1 → count p a ≤ count h a + 1
count_near p h y zero le near = omega arith
count_near p h y (suc a) le near = go (ℕ_discrete a y) (count_near p h y a le near)
  where
    go : Dec (a ≡ y) → count p a ≤ count h a + 1 → count p (suc a) ≤ count h (suc a) + 1
    go (yes d) earlier =
        let here : p a ≤ h a + 1 = rw d near in
        omega (arith, here, count_mono p h a (λ i l. le i (λ e. omega arith)))
    go (no d) earlier = omega (arith, le a d)

-- c keys have no more than c values
count-values : (key : ℕ → ℕ) (c a : ℕ) → count (λ x. bit (some (λ i. eqb (key i) x) c)) a ≤ c
count-values key zero a = omega (arith, count_none (λ x. 0) a (λ x l. refl))
count-values key (suc c) a =
    let now : ℕ → ℕ = λ x. bit (some (λ i. eqb (key i) x) (suc c)) in
    let before : ℕ → ℕ = λ x. bit (some (λ i. eqb (key i) x) c) in
    let same : (x : ℕ) → x ≢ key c → now x ≤ before x = λ x n. simp (ne_eqb (key c) x (λ e. n (sym e))) (le_refl _) in
    let near : now (key c) ≤ before (key c) + 1 = omega (arith, bit-most (some (λ i. eqb (key i) (key c)) (suc c))) in
    omega (arith, count_near now before (key c) a same near, count-values key c a)

pub moves_fewer : (B : Board) (m : Mode) (t : List ℕ) → length (class_moves B m t) ≤ length B.moves
moves_fewer B m t = omega (arith, moves_long B m t, count-values (image_of B m t) (length B.moves / 3) (B.n * B.k * B.n))
