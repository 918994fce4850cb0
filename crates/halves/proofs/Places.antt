-- The entries' numbers: each is of one position alone, and within its part of the table.
use Rattle.std.proofs.Common.{◌≡◌, sym, ap, ◌∙◌, ℕ, ◌+◌, ◌*◌, ◌-◌, ◌/◌, ◌%◌, ◌≤◌, ◌<◌, arith}
use lib.Arith.{digits_lt, digits_div, digits_mod}
use Rattle.automaton.specs.declared.Mode.{Mode}
use Rattle.automaton.specs.Board.{Board, Formed}
use Rattle.simulation.specs.Position.{duplicator, layers, pairs, positions, pair, number}
use Rattle.simulation.proofs.Position.{positions_are, horner, pair_lt, pair_b, pair_q, pair_r, number_lt, number-position, position_fits, spoilers_turn, duplicators_turn}
use Rattle.halves.specs.Rising.{column}

-- ---- Spoiler's entries by rows

pub pair_row : (B : Board) (b q r : ℕ) → pair B b q r ≡ (b * B.n + q) * B.n + r
pair_row B b q r = horner B b q r

pub pair_one : (B : Board) → {b q r b' q' r' : ℕ} → q < B.n → r < B.n → q' < B.n → r' < B.n → pair B b q r ≡ pair B b' q' r'
    → (b ≡ b') × (q ≡ q') × (r ≡ r')
pair_one B {b} {q} {r} {b'} {q'} {r'} hq hr hq' hr' e = (
  sym (pair_b B b q r hq hr) ∙ ap (λ (v : ℕ). v / B.n / B.n) e ∙ pair_b B b' q' r' hq' hr',
  sym (pair_q B b q r hq hr) ∙ ap (λ (v : ℕ). v / B.n % B.n) e ∙ pair_q B b' q' r' hq' hr',
  sym (pair_r B b q r hr) ∙ ap (λ (v : ℕ). v % B.n) e ∙ pair_r B b' q' r' hr',
)

-- ---- Duplicator's entries

pub number-one : (B : Board) (m : Mode) → {b q r a b' q' r' a' : ℕ} → q < B.n → r < B.n → a < B.k → q' < B.n → r' < B.n → a' < B.k
    → number B m (duplicator b q r a) ≡ number B m (duplicator b' q' r' a') → (b ≡ b') × (q ≡ q') × (r ≡ r') × (a ≡ a')
number-one B m {b} {q} {r} {a} {b'} {q'} {r'} {a'} hq hr ha hq' hr' ha' e =
    let i = pair B b q r in
    let j = pair B b' q' r' in
    let d : i * B.k + a ≡ j * B.k + a' = omega arith in
    let same : i ≡ j = sym (digits_div i ha) ∙ ap (λ (v : ℕ). v / B.k) d ∙ digits_div j ha' in
    let one = pair_one B {b = b} {q = q} {r = r} {b' = b'} {q' = q'} {r' = r'} hq hr hq' hr' same in
    (one.0, one.1, one.2, sym (digits_mod i ha) ∙ ap (λ (v : ℕ). v % B.k) d ∙ digits_mod j ha')

-- ---- each number is of a position, and each position has one within its part

module _ (B : Board) (m : Mode) (F : Formed B) where
  pub pair-below : (b q r : ℕ) → b < layers m → q < B.n → r < B.n → pair B b q r < pairs B m
  pair-below b q r hb hq hr = pair_lt B (layers m) hb hq hr

  pub duplicator-within : (b q r a : ℕ) → b < layers m → q < B.n → r < B.n → a < B.k
      → (pairs B m ≤ number B m (duplicator b q r a)) × (number B m (duplicator b q r a) < positions B m)
  duplicator-within b q r a hb hq hr ha = (omega arith, number_lt B m (duplicator b q r a) (hb, hq, hr, ha))

  pub each-spoiler : (v : ℕ) → v < pairs B m
      → (b : ℕ) × (q : ℕ) × (r : ℕ) × (b < layers m) × (q < B.n) × (r < B.n) × (v ≡ pair B b q r)
  each-spoiler v h =
      let turn = spoilers_turn B m v h in
      let fits = rw turn at (position_fits B m F v (omega (arith, positions_are B m))) in
      (v / B.n / B.n, v / B.n % B.n, v % B.n, fits.0, fits.1, fits.2, sym (rw turn at (number-position B m v)))

  pub each-duplicator : (v : ℕ) → pairs B m ≤ v → v < positions B m
      → (b : ℕ) × (q : ℕ) × (r : ℕ) × (a : ℕ) × (b < layers m) × (q < B.n) × (r < B.n) × (a < B.k) × (v ≡ number B m (duplicator b q r a))
  each-duplicator v l h =
      let w = v - pairs B m in
      let turn = duplicators_turn B m v l in
      let fits = rw turn at (position_fits B m F v h) in
      (w / B.k / B.n / B.n, w / B.k / B.n % B.n, w / B.k % B.n, w % B.k, fits.0, fits.1, fits.2, fits.3, sym (rw turn at (number-position B m v)))

  -- ---- the words for rows and for columns

  pub row_below : (b q : ℕ) → b < layers m → q < B.n → b * B.n + q < layers m * B.n
  row_below b q hb hq = digits_lt hb hq

  pub column-below : (b r a : ℕ) → b < layers m → r < B.n → a < B.k → column B b r a < layers m * B.n * B.k
  column-below b r a hb hr ha = digits_lt (digits_lt hb hr) ha
