-- The composed family of a ranked one: (q,s) is held where for some r both (q,r) and (r,s) are, with the composed rank.
use mathlib.Core.Path.{◌≡◌, refl}
use mathlib.Core.Logic.{◌≢◌}
use mathlib.Core.Bool.{Bool, true, false}
use mathlib.Core.List.{Memᴰ}
use Prim.Native.Nat.{ℕ, ◌+◌, ◌*◌, ◌≤◌, ◌<◌}
use native.Mathlib.Omega.{arith}
use Rattle.games.specs.Game.{lost}
use Rattle.automaton.specs.declared.Mode.{Mode}
use Rattle.automaton.specs.Board.{Board, accepts, Formed}
use Rattle.simulation.specs.Moves.{targets}
use Rattle.simulation.specs.Position.{Position, spoiler}
use Rattle.simulation.specs.Rules.{kind_of, owed}
use Rattle.simulation.specs.Won.{Ahead}
use Rattle.simulation.proofs.Moves.{targets_lt}
use Rattle.simulation.proofs.Walks.{Good, beginning-good}
use Rattle.laws.specs.Families.{Family, round, Answer, Ranked, Begins}
use Rattle.laws.proofs.Families.{round-good, lost_means}
use Rattle.laws.specs.Ranks.{composed}
use Rattle.laws.proofs.Ranks.{composed-bounded, round-owing, owed-owing, Open, composed-fall}

-- (q,mid) and (mid,s) are held; what s owes to q it owes to mid, or mid owes it to q
pub record Composed (B : Board) (m : Mode) (N : ℕ) (R : Family) (b q s k : ℕ) : Type 0 where
  pub mid : ℕ
  pub bit_first : ℕ
  pub bit_second : ℕ
  pub rank_first : ℕ
  pub rank_second : ℕ
  pub first : R bit_first q mid rank_first
  pub second : R bit_second mid s rank_second
  pub good : Good B m (spoiler b q s)
  pub owing : b ≤ bit_first + bit_second
  pub is : k ≡ composed m N b bit_second rank_first rank_second

-- where neither of the two positions is lost, neither is the composed one
composed-kept : (B : Board) (m : Mode) (b c d q r s : ℕ) → kind_of B m (spoiler c q r) ≢ lost → kind_of B m (spoiler d r s) ≢ lost → kind_of B m (spoiler b q s) ≢ lost
composed-kept B m b c d q r s f g e = let (ahead, back) = lost_means B m (spoiler b q s) e in go ahead back (accepts B r) refl
  where
    go : Ahead B (spoiler b q s) → ((u : Position) → Ahead B u → kind_of B m u ≡ lost) → (y : Bool) → accepts B r ≡ y → ⊥
    go (x, z) back true y = g (back (spoiler d r s) (y, z))
    go (x, z) back false y = f (back (spoiler c q r) (x, y))

module _ (B : Board) (F : Formed B) (m : Mode) (N : ℕ) (R : Family) (ranked : Ranked B m N R) where
  -- the bit of a position that is held
  open_bit : {b q r k : ℕ} → R b q r k → Open m b (accepts B q) (accepts B r)
  open_bit x = let g = ranked.good x in (g.0.0, g.1)

  -- Blue's answer on s is the one to the answer on mid
  composed-answer : {b q s k : ℕ} → Composed B m N R b q s k → (a q' : ℕ) → Memᴰ q' (targets B q a) → Answer B m (Composed B m N R) b q s k a q'
  composed-answer {b} {q} {s} e a q' v =
      let c = e.bit_first in
      let d = e.bit_second in
      let f = ranked.answer e.first a q' v in
      let g = ranked.answer e.second a f.to f.move in
      let x = accepts B q' in
      let y = accepts B f.to in
      let z = accepts B g.to in
      let falls = composed-fall (ranked.bounded f.held) (ranked.bounded g.held) x y z m b c d (accepts B q) (accepts B e.mid) (accepts B s) in
      record {
        to = g.to;
        rank = composed m N (round m x z b) (round m y z d) f.rank g.rank;
        move = g.move;
        held = record {
          mid = f.to;
          bit_first = round m x y c;
          bit_second = round m y z d;
          rank_first = f.rank;
          rank_second = g.rank;
          first = f.held;
          second = g.held;
          good = round-good B m b q s e.good q' g.to (targets_lt B F q a v) (targets_lt B F s a g.move);
          owing = round-owing m x y z b c d e.good.0.0 e.owing;
          is = refl;
        };
        fall = λ n. omega (arith, e.is, falls (e.good.0.0, e.good.1) (open_bit e.first) (open_bit e.second) e.owing f.fall g.fall n);
      }

  pub composed_ranked : Ranked B m (N + N + N * N) (Composed B m N R)
  composed_ranked = record {
    bounded = λ {b} e.
        omega (arith, e.is, composed-bounded m N b e.bit_second e.rank_first e.rank_second (ranked.bounded e.first) (ranked.bounded e.second));
    good = λ e. e.good;
    kept = λ {b} {q} {r = s} e. composed-kept B m b e.bit_first e.bit_second q e.mid s (ranked.kept e.first) (ranked.kept e.second);
    answer = composed-answer;
  }

  pub composed-begins : (q r s : ℕ) → q < B.n → s < B.n → Begins B m R q r → Begins B m R r s → Begins B m (Composed B m N R) q s
  composed-begins q r s h l (i, x) (j, y) =
      let b = owed m (accepts B q) (accepts B s) in
      let c = owed m (accepts B q) (accepts B r) in
      let d = owed m (accepts B r) (accepts B s) in (
        composed m N b d i j,
        record {
          mid = r;
          bit_first = c;
          bit_second = d;
          rank_first = i;
          rank_second = j;
          first = x;
          second = y;
          good = beginning-good B F m q s h l;
          owing = owed-owing m (accepts B q) (accepts B r) (accepts B s);
          is = refl;
        },
      )
