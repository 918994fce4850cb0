-- By the least table at rest, states are equal exactly if each wins against the other, so being equal is an equivalence and the classes are its classes.
use mathlib.Core.Path.{◌≡◌}
use mathlib.Core.Logic.Iff
use mathlib.Core.Logic.{◌↔◌}
use mathlib.Core.Bool.{true, and-eq-true_iff}
use mathlib.Core.List.{List}
use Prim.Native.Nat.{ℕ, ◌<◌}
use borrow.Author.Tests.{ltb-true, lt-ltb}
use Rattle.games.specs.Game.{at}
use Rattle.games.specs.Lift.{Least}
use Rattle.automaton.specs.declared.Mode.{Mode}
use Rattle.automaton.specs.Board.{Board, Formed}
use Rattle.simulation.specs.Answers.{below}
use Rattle.simulation.specs.Position.{number}
use Rattle.simulation.specs.Quotient.{equal, class_of}
use Rattle.simulation.specs.Rules.{beginning, ceiling, game}
use Rattle.simulation.specs.Won.{WonPair}
use Rattle.simulation.proofs.Relation.{least_won}
use Rattle.laws.specs.Equivalence.{Equivalence}
use Rattle.laws.proofs.Preorder.{won_refl, won_trans}
use Rattle.laws.proofs.Quotient.{class_same}

module _ (B : Board) (F : Formed B) (m : Mode) (t : List ℕ) (least : Least (game B m) t) where
  below_won : (q r : ℕ) → q < B.n → r < B.n → (below B m t q r ≡ true) ↔ WonPair B m q r
  below_won q r h l = Iff.trans (ltb-true (at t (number B m (beginning B m q r))) (ceiling B m), lt-ltb (at t (number B m (beginning B m q r))) (ceiling B m)) (least_won B F m t q r h l least)

  -- "Two states are equal if each is related to the other": if each pair is won
  pub equal_won : (q r : ℕ) → q < B.n → r < B.n → (equal B m t q r ≡ true) ↔ (WonPair B m q r × WonPair B m r q)
  equal_won q r h l =
      Iff.trans (and-eq-true_iff (below B m t q r) (below B m t r q))
      (λ e. ((below_won q r h l).0 e.0, (below_won r q l h).0 e.1), λ w. ((below_won q r h l).1 w.0, (below_won r q l h).1 w.1))

  pub equal_equivalence : Equivalence B.n (equal B m t)
  equal_equivalence = record {
    same = λ q h. (equal_won q q h h).1 (won_refl B F m q h, won_refl B F m q h);
    back = λ q r h l e. let w = (equal_won q r h l).0 e in (equal_won r q l h).1 (w.1, w.0);
    on = λ q r s h l k e d.
        let v = (equal_won q r h l).0 e in
        let w = (equal_won r s l k).0 d in
        (equal_won q s h k).1 (won_trans B F m q r s h l k v.0 w.0, won_trans B F m s r q k l h w.1 v.1);
  }

  -- one class exactly if each pair is won
  pub class_won : (q r : ℕ) → q < B.n → r < B.n → (class_of B m t q ≡ class_of B m t r) ↔ (WonPair B m q r × WonPair B m r q)
  class_won q r h l = Iff.trans (class_same B m t equal_equivalence q r h l) (equal_won q r h l)
