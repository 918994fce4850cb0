-- A position and its number determine each other; the positions of a mode are the numbers below P.
use mathlib.Core.Path.{◌≡◌, sym, ◌∙◌}
use Prim.Native.Nat.{ℕ, ◌+◌, ◌*◌, ◌-◌, ◌/◌, ◌%◌, ◌≤◌, ◌<◌}
use native.Mathlib.Nat.{add-mul, mul-add, mul_assoc, mul-one, div-add-mod', mod-lt, div-lt_iff_lt-mul}
use native.Mathlib.Omega.{arith}
use native.Mathlib.Decide.{dec_lt}
use lib.Arith.{digits_lt, digits_div, digits_mod}
use borrow.Author.Tests.{lt-ltb, le-ltb}
use Rattle.automaton.specs.declared.Mode.{Mode}
use Rattle.automaton.specs.Board.{Board, Formed}
use Rattle.simulation.specs.Position.{Position, spoiler, duplicator, layers, pairs, positions, pair, number, spoiler_at, duplicator_at, position, Fits}

-- ---- b·n² + q·n + q' and back

module _ (B : Board) where
  pub horner : (b q r : ℕ) → pair B b q r ≡ (b * B.n + q) * B.n + r
  horner b q r = sym (rw (add-mul (b * B.n) q B.n, mul_assoc b B.n B.n))

  pub pair_lt : (L : ℕ) {b q r : ℕ} → b < L → q < B.n → r < B.n → pair B b q r < L * (B.n * B.n)
  pair_lt L {b} {q} {r} x y z = rw (horner b q r, ← mul_assoc L B.n B.n) (digits_lt (digits_lt x y) z)

  pub pair_b : (b q r : ℕ) → q < B.n → r < B.n → pair B b q r / B.n / B.n ≡ b
  pair_b b q r y z = rw (horner b q r, digits_div (b * B.n + q) z) (digits_div b y)

  pub pair_q : (b q r : ℕ) → q < B.n → r < B.n → pair B b q r / B.n % B.n ≡ q
  pair_q b q r y z = rw (horner b q r, digits_div (b * B.n + q) z) (digits_mod b y)

  pub pair_r : (b q r : ℕ) → r < B.n → pair B b q r % B.n ≡ r
  pair_r b q r z = rw (horner b q r) (digits_mod (b * B.n + q) z)

  unpair : (v : ℕ) → pair B (v / B.n / B.n) (v / B.n % B.n) (v % B.n) ≡ v
  unpair v = horner (v / B.n / B.n) (v / B.n % B.n) (v % B.n) ∙ rw (div-add-mod' (v / B.n) B.n) (div-add-mod' v B.n)

  unpair_lt : (L v : ℕ) → 0 < B.n → v < L * (B.n * B.n) → v / B.n / B.n < L
  unpair_lt L v p h = (div-lt_iff_lt-mul p).1 ((div-lt_iff_lt-mul p).1 (rw (mul_assoc L B.n B.n) h))

  -- P is Spoiler's positions and k times as many of Duplicator's
  pub positions_are : (m : Mode) → positions B m ≡ pairs B m + pairs B m * B.k
  positions_are m = rw (mul-add (pairs B m) 1 B.k, mul-one (pairs B m))

-- ---- positions and numbers

module _ (B : Board) (m : Mode) where
  pub number_lt : (p : Position) → Fits B m p → number B m p < positions B m
  number_lt (spoiler b q r) h = rw (positions_are B m) (omega (arith, pair_lt B (layers m) h.0 h.1 h.2))
  number_lt (duplicator b q r a) h =
      rw (positions_are B m) (omega (arith, digits_lt (pair_lt B (layers m) h.0 h.1 h.2) h.3))

  -- whose turn it is at a number
  pub spoilers_turn : (v : ℕ) → v < pairs B m → position B m v ≡ spoiler_at B v
  spoilers_turn v h = rw (lt-ltb v (pairs B m) h)

  pub duplicators_turn : (v : ℕ) → pairs B m ≤ v → position B m v ≡ duplicator_at B (v - pairs B m)
  duplicators_turn v h = rw (le-ltb v (pairs B m) h)

  pub position-number : (p : Position) → Fits B m p → position B m (number B m p) ≡ p
  position-number (spoiler b q r) h =
      rw (lt-ltb (pair B b q r) (pairs B m) (pair_lt B (layers m) h.0 h.1 h.2), pair_b B b q r h.1 h.2, pair_q B b q r h.1 h.2, pair_r B b q r h.2)
  position-number (duplicator b q r a) h =
      let i = pair B b q r in
      let e : pairs B m + i * B.k + a - pairs B m ≡ i * B.k + a = omega arith in
      rw (le-ltb (pairs B m + i * B.k + a) (pairs B m) (omega arith), e, digits_div i h.3, digits_mod i h.3, pair_b B b q r h.1 h.2, pair_q B b q r h.1 h.2, pair_r B b q r h.2)

  pub number-position : (v : ℕ) → number B m (position B m v) ≡ v
  number-position v = go (dec_lt v (pairs B m))
    where
      go : Dec (v < pairs B m) → number B m (position B m v) ≡ v
      go (yes h) = rw (lt-ltb v (pairs B m) h) (unpair B v)
      go (no h) =
          let w = v - pairs B m in
          rw (le-ltb v (pairs B m) (omega arith), unpair B (w / B.k)) (omega (arith, div-add-mod' w B.k))

  pub position_fits : Formed B → (v : ℕ) → v < positions B m → Fits B m (position B m v)
  position_fits F v h = go (dec_lt v (pairs B m))
    where
      go : Dec (v < pairs B m) → Fits B m (position B m v)
      go (yes l) =
          rw (lt-ltb v (pairs B m) l) (unpair_lt B (layers m) v F.states l, mod-lt (v / B.n) F.states, mod-lt v F.states)
      go (no l) =
          let w = v - pairs B m in
          let b : w < pairs B m * B.k = omega (arith, positions_are B m) in
          rw (le-ltb v (pairs B m) (omega arith))
          (unpair_lt B (layers m) (w / B.k) F.states ((div-lt_iff_lt-mul F.letters).1 b), mod-lt (w / B.k / B.n) F.states, mod-lt (w / B.k) F.states, mod-lt w F.letters)
