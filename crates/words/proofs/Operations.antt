-- What the machine's operations make of sets.
use Rattle.std.proofs.Common.{◌≡◌, ap, ◌∙◌, ◌≢◌, ◌⊎◌, inl, inr, ℕ, ◌+◌, ◌*◌, ◌-◌, ◌/◌, ◌%◌, ◌^◌, ◌≤◌, ◌<◌, min, one-mul, mod-eq_of_lt, arith, bit_and, bit_or, pow_pos}
use lib.Bits.{and_mask}
use lib.Count.{count_trailing_zeros}
use lib.Pow.{pow-lt, ones_lt}
use Rattle.words.specs.Word.{dig, In, Pop, Minus, With, Below, Joined, Met}
use Rattle.words.proofs.Digits.{dig_le, dig-zero, dig-or, dig-and, dig-one, dig-other, dig-not, dig-less, dig_shr, dig-bound, dig-most, low_set, drop_low}
use Rattle.words.proofs.Sets.{in_or-out}

-- m & (m - 1)
pub pop_made : (m : ℕ) → m < 2 ^ 64 → m ≢ 0 → Pop m (count_trailing_zeros 64 m) (bit_and m (m - 1))
pop_made m h n =
    let s = low_set 64 m h n in
    let d = dig-less m (count_trailing_zeros 64 m) s.1 in
    rw (drop_low 64 m h n)
    (record { bound = s.0; here = s.1; gone = d.2; other = d.1; less = omega (arith, d.0, pow_pos (count_trailing_zeros 64 m)) })

-- a & !b: what holds digit by digit gives the rest
pub minus_made : (a b r : ℕ) → a < 2 ^ 64 → b < 2 ^ 64 → ((i : ℕ) → i < 64 → dig r i ≡ min (dig a i) (1 - dig b i)) → r < 2 ^ 64 → Minus a b r
minus_made a b r ha hb each hr = record {
  each = each;
  sub = λ i. sub i (in_or-out r i);
  keep = λ i x y. omega (arith, each i (dig-bound 64 a i ha x));
  off = λ i x. omega (arith, each i (dig-bound 64 b i hb x));
  most = dig-most 64 r a hr (λ i l. omega (arith, each i l));
}
  where
    sub : (i : ℕ) → In i r ⊎ (dig r i ≡ 0) → dig r i ≤ dig a i
    sub i (inl k) = omega (arith, each i (dig-bound 64 r i hr k))
    sub i (inr k) = omega arith

-- 1 << j, which loses nothing
pub bit_of : (j : ℕ) → j < 64 → 1 * 2 ^ j % 2 ^ 64 ≡ 2 ^ j
bit_of j h = rw (one-mul (2 ^ j)) (mod-eq_of_lt (pow-lt {i = j} {j = 64} h))

-- m | (1 << j)
pub with_made : (m j : ℕ) → With m j (bit_or m (2 ^ j))
with_made m j = record {
  here = omega (arith, dig-or m (2 ^ j) j, dig-one j, dig_le m j);
  other = λ i n. omega (arith, dig-or m (2 ^ j) i, dig-other j i n);
}

-- (m >> x) & 1
pub digit_at : (m x : ℕ) → bit_and (m / 2 ^ x) 1 ≡ dig m x
unfolding dig
digit_at m x = let z : x + 0 ≡ x = omega arith in and_mask (m / 2 ^ x) 1 ∙ dig_shr m x 0 ∙ ap (dig m) z

-- (1 << n) - 1
ones_below : (n : ℕ) → Below n (2 ^ n - 1)
ones_below n = record { each = each; none = λ i h. none i h (in_or-out (2 ^ n - 1) i) }
  where
    each : (i : ℕ) → i < n → In i (2 ^ n - 1)
    each i h =
        let z : 2 ^ n - 1 - 0 ≡ 2 ^ n - 1 = omega arith in
        let d : dig (2 ^ n - 1) i ≡ 1 - dig 0 i = rw z at (dig-not n 0 i (pow_pos n) h) in
        omega (arith, dig-zero i)

    none : (i : ℕ) → n ≤ i → In i (2 ^ n - 1) ⊎ (dig (2 ^ n - 1) i ≡ 0) → dig (2 ^ n - 1) i ≡ 0
    none i h (inl k) = absurd (omega (arith, dig-bound n (2 ^ n - 1) i (ones_lt n) k))
    none i h (inr k) = k

pub below_made : (n r : ℕ) → r ≡ 2 ^ n - 1 → Below n r
below_made n r e = rw e (ones_below n)

pub joined_made : (a b : ℕ) → Joined a b (bit_or a b)
joined_made a b = record { each = dig-or a b }

pub met_made : (a b : ℕ) → Met a b (bit_and a b)
met_made a b = record { each = dig-and a b }
