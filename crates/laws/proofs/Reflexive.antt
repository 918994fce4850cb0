-- The family of a state beside itself: Blue copies Red, and every rank is 0.
use mathlib.Core.Path.{◌≡◌, refl, sym, ap, ◌∙◌}
use mathlib.Core.Logic.{◌≢◌}
use mathlib.Core.Bool.{Bool, true, false}
use mathlib.Core.List.{Memᴰ}
use Prim.Native.Nat.{ℕ, ◌<◌}
use native.Mathlib.Omega.{arith}
use Rattle.games.specs.Game.{lost}
use Rattle.games.specs.Play.{is_counting}
use Rattle.automaton.specs.declared.Mode.{Mode}
use Rattle.automaton.specs.declared.Mode.TheVariants.{Ordinary, Direct, Delayed, Fair}
use Rattle.automaton.specs.Board.{Board, accepts, Formed}
use Rattle.simulation.specs.Moves.{targets}
use Rattle.simulation.specs.Position.{spoiler}
use Rattle.simulation.specs.Rules.{bit, turn, kind_of}
use Rattle.simulation.proofs.Moves.{targets_lt}
use Rattle.simulation.proofs.Walks.{Good, beginning-good}
use Rattle.laws.specs.Families.{round, Answer, Ranked, Begins}
use Rattle.laws.proofs.Families.{owed-round, round-good, lost_means}

-- Red and Blue stand on one state, nothing is pending, and the rank is 0
pub record Same (B : Board) (m : Mode) (b q r k : ℕ) : Type 0 where
  pub good : Good B m (spoiler b q r)
  pub one : r ≡ q
  pub met : b ≡ 0
  pub zero : k ≡ 0

-- a round keeps the bit 0
round_same : (m : Mode) (x : Bool) (b : ℕ) → b ≡ 0 → round m x x b ≡ 0
round_same Ordinary x b z = z
round_same Direct x b z = z
round_same Delayed true b z = refl
round_same Delayed false b z = z
round_same Fair x b z = z

-- a position of a state beside itself does not count
turn-same : (m : Mode) (x : Bool) → is_counting (turn m 0 x x) ≡ 0
turn-same Ordinary x = refl
turn-same Direct true = refl
turn-same Direct false = refl
turn-same Delayed x = refl
turn-same Fair true = refl
turn-same Fair false = refl

module _ (B : Board) (F : Formed B) (m : Mode) where
  -- nor is it lost
  same_kept : (b q r : ℕ) → r ≡ q → kind_of B m (spoiler b q r) ≢ lost
  same_kept b q r o e = let (x, y) = (lost_means B m (spoiler b q r) e).0 in omega (arith, ap bit (sym x ∙ ap (accepts B) (sym o) ∙ y))

  -- Blue's answer is Red's own move
  same_answer : {b q r k : ℕ} → Same B m b q r k → (a q' : ℕ) → Memᴰ q' (targets B q a) → Answer B m (Same B m) b q r k a q'
  same_answer {b} {q} {r} e a q' i =
      let h = targets_lt B F q a i in
      record {
        to = q';
        rank = 0;
        move = rw e.one i;
        held = record { good = round-good B m b q r e.good q' q' h h; one = refl; met = round_same m (accepts B q') b e.met; zero = refl };
        fall = λ z. rw (e.one, e.met) (omega (arith, turn-same m (accepts B q)));
      }

  pub same_ranked : Ranked B m 1 (Same B m)
  same_ranked = record {
    bounded = λ e. omega (arith, e.zero);
    good = λ e. e.good;
    kept = λ e. same_kept _ _ _ e.one;
    answer = same_answer;
  }

  pub same-begins : (q : ℕ) → q < B.n → Begins B m (Same B m) q q
  same-begins q h = (0, record { good = beginning-good B F m q q h h; one = refl; met = owed-round m (accepts B q) (accepts B q) ∙ round_same m (accepts B q) 0 refl; zero = refl })
