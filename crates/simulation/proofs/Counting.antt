-- In each mode the counting positions are fewer than T.
use mathlib.Core.Path.{◌≡◌, refl, subst}
use mathlib.Core.Bool.{Bool, true, false}
use Prim.Native.Nat.{ℕ, zero, suc, ◌+◌, ◌*◌, ◌-◌, ◌/◌, ◌%◌, ◌≤◌, ◌<◌}
use native.Mathlib.Nat.{add-zero, zero-mul, mul_assoc, mul_comm, le_refl, le_trans, le_of_eq, mul-le-mul_right}
use native.Mathlib.Omega.{arith}
use lib.Arith.{digits_lt, digits_div, digits_mod}
use borrow.Author.Tests.{lt-ltb, le-ltb}
use Rattle.games.specs.Play.{is_counting, count, counting_in}
use Rattle.games.proofs.Count.{count_mono, count_none, count-sum, count_mul, count-rows}
use Rattle.automaton.specs.declared.Mode.{Mode}
use Rattle.automaton.specs.declared.Mode.TheVariants.{Ordinary, Direct, Delayed, Fair}
use Rattle.automaton.specs.Board.{Board, accepts}
use Rattle.simulation.specs.Position.{layers, pairs, position}
use Rattle.simulation.specs.Rules.{turn, kind_of, bit, ones, ceiling, game}
use Rattle.simulation.proofs.Position.{positions_are}
use Rattle.simulation.proofs.Listed.{bit-most}

-- how many counting positions a row has for each of Blue's states that does not accept, and how many such rows' worth a layer has
cell : Mode → ℕ → Bool → ℕ
cell Ordinary b x = 0
cell Direct b x = 0
cell Delayed zero x = 0
cell Delayed (suc b) x = 1
cell Fair b x = bit x

layer : Board → Mode → ℕ → ℕ
layer B Ordinary b = 0
layer B Direct b = 0
layer B Delayed zero = 0
layer B Delayed (suc b) = B.n
layer B Fair b = ones B

cell_turn : (m : Mode) (b : ℕ) (x y : Bool) → is_counting (turn m b x y) ≤ (1 - bit y) * cell m b x
unfolding cell
cell_turn Ordinary b x y = omega arith
cell_turn Direct b true false = omega arith
cell_turn Direct b true true = omega arith
cell_turn Direct b false y = omega arith
cell_turn Delayed zero x y = omega arith
cell_turn Delayed (suc zero) x true = omega arith
cell_turn Delayed (suc zero) x false = omega arith
cell_turn Delayed (suc (suc b)) x y = omega arith
cell_turn Fair b x true = omega arith
cell_turn Fair b true false = omega arith
cell_turn Fair b false false = omega arith

module _ (B : Board) where
  -- Blue's states that do not accept are n - f
  rest-ones : (a : ℕ) → count (λ r. 1 - bit (accepts B r)) a + count (λ r. bit (accepts B r)) a ≡ a
  rest-ones zero = refl
  rest-ones (suc a) = omega (arith, rest-ones a, bit-most (accepts B a))

  pub ones-most : ones B ≤ B.n
  ones-most = omega (arith, rest-ones B.n)

  row : (m : Mode) (b : ℕ) (x : Bool) → count (λ r. is_counting (turn m b x (accepts B r))) B.n ≤ cell m b x * (B.n - ones B)
  row m b x =
      le_trans (count_mono _ (λ r. (1 - bit (accepts B r)) * cell m b x) B.n (λ r l. cell_turn m b x (accepts B r)))
      (rw (count_mul (λ r. 1 - bit (accepts B r)) (cell m b x) B.n, free) (le_of_eq (mul_comm (B.n - ones B) (cell m b x))))
    where
      free : count (λ r. 1 - bit (accepts B r)) B.n ≡ B.n - ones B
      free = omega (arith, rest-ones B.n)

  layer_cells : (m : Mode) (b : ℕ) → count (λ q. cell m b (accepts B q)) B.n ≤ layer B m b
  unfolding cell layer
  layer_cells Ordinary b = le_of_eq (count_none _ B.n (λ i l. refl))
  layer_cells Direct b = le_of_eq (count_none _ B.n (λ i l. refl))
  layer_cells Delayed zero = le_of_eq (count_none _ B.n (λ i l. refl))
  layer_cells Delayed (suc b) = all B.n
    where
      all : (a : ℕ) → count (λ q. 1) a ≤ a
      all zero = le_refl 0
      all (suc a) = omega (arith, all a)
  layer_cells Fair b = le_refl (ones B)

  module _ (m : Mode) where
    at-spoiler : (i r : ℕ) → i < layers m * B.n → r < B.n
        → is_counting (kind_of B m (position B m (i * B.n + r))) ≡ is_counting (turn m (i / B.n) (accepts B (i % B.n)) (accepts B r))
    at-spoiler i r h l =
        let lt : i * B.n + r < pairs B m = rw (← mul_assoc (layers m) B.n B.n) (digits_lt h l) in
        rw (lt-ltb (i * B.n + r) (pairs B m) lt, digits_div i l, digits_mod i l)

    spoilers : count (λ u. is_counting (kind_of B m (position B m u))) (pairs B m) ≤ count (layer B m) (layers m) * (B.n - ones B)
    spoilers =
        subst (λ (x : ℕ). count (λ u. is_counting (kind_of B m (position B m u))) x ≤ count (layer B m) (layers m) * (B.n - ones B)) (mul_assoc (layers m) B.n B.n)
        (le_trans (count-rows (λ u. is_counting (kind_of B m (position B m u))) (λ i. cell m (i / B.n) (accepts B (i % B.n)) * (B.n - ones B)) B.n (layers m * B.n) rows)
        (rw (count_mul (λ i. cell m (i / B.n) (accepts B (i % B.n))) (B.n - ones B) (layers m * B.n))
        (mul-le-mul_right (B.n - ones B) (count-rows (λ i. cell m (i / B.n) (accepts B (i % B.n))) (layer B m) B.n (layers m) cells))))
      where
        rows : (i : ℕ) → i < layers m * B.n → count (λ r. is_counting (kind_of B m (position B m (i * B.n + r)))) B.n ≤ cell m (i / B.n) (accepts B (i % B.n)) * (B.n - ones B)
        rows i h = le_trans (count_mono _ _ B.n (λ r l. le_of_eq (at-spoiler i r h l))) (row m (i / B.n) (accepts B (i % B.n)))

        cells : (b : ℕ) → b < layers m → count (λ q. cell m ((b * B.n + q) / B.n) (accepts B ((b * B.n + q) % B.n))) B.n ≤ layer B m b
        cells b h = le_trans (count_mono _ _ B.n (λ q l. rw (digits_div b l, digits_mod b l) (le_refl _))) (layer_cells m b)

    at-duplicator : (j : ℕ) → is_counting (kind_of B m (position B m (pairs B m + j))) ≡ 0
    at-duplicator j = rw (le-ltb (pairs B m + j) (pairs B m) (omega arith))

    most : counting_in (game B m) ≤ count (layer B m) (layers m) * (B.n - ones B)
    most =
        rw (positions_are B m, count-sum (λ u. is_counting (kind_of B m (position B m u))) (pairs B m) (pairs B m * B.k))
        (omega (arith, spoilers, count_none (λ j. is_counting (kind_of B m (position B m (pairs B m + j)))) (pairs B m * B.k) (λ j l. at-duplicator j)))

  -- the ceiling suffices
  pub counting_below : (m : Mode) → counting_in (game B m) < ceiling B m
  unfolding layer
  counting_below Ordinary = omega (arith, most Ordinary, zero-mul (B.n - ones B))
  counting_below Direct = omega (arith, most Direct, zero-mul (B.n - ones B))
  counting_below Delayed = omega (arith, rw (add-zero B.n) at (most Delayed))
  counting_below Fair = omega (arith, rw (add-zero (ones B)) at (most Fair))
