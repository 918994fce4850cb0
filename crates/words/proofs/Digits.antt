-- The laws of digits: what the machine's operations on words do to them.
use Rattle.std.proofs.Common.{◌≡◌, refl, ap, ◌∙◌, ◌≢◌, ℕ, zero, suc, ◌+◌, ◌*◌, ◌-◌, ◌/◌, ◌%◌, ◌^◌, ◌≤◌, ◌<◌, min, max, pow-suc, arith, bit_and, bit_or, shr-shr}
use lib.Bits.{and_step, or_step, and_self}
use lib.Count.{count_trailing_zeros, under}
use Rattle.words.specs.Word.{dig}

pub dig_le : (x i : ℕ) → dig x i ≤ 1
unfolding dig
dig_le x zero = omega arith
dig_le x (suc i) = dig_le (x / 2) i

pub dig-zero : (i : ℕ) → dig 0 i ≡ 0
unfolding dig
dig-zero zero = refl
dig-zero (suc i) = dig-zero i

-- `|` and `&`, digit by digit
pub dig-or : (a b i : ℕ) → dig (bit_or a b) i ≡ max (dig a i) (dig b i)
unfolding dig
dig-or a b zero = omega (arith, or_step a b)
dig-or a b (suc i) = let e : bit_or a b / 2 ≡ bit_or (a / 2) (b / 2) = omega (arith, or_step a b) in rw e (dig-or (a / 2) (b / 2) i)

pub dig-and : (a b i : ℕ) → dig (bit_and a b) i ≡ min (dig a i) (dig b i)
unfolding dig
dig-and a b zero = omega (arith, and_step a b)
dig-and a b (suc i) = let e : bit_and a b / 2 ≡ bit_and (a / 2) (b / 2) = omega (arith, and_step a b) in rw e (dig-and (a / 2) (b / 2) i)

-- the word of j alone
pub dig-one : (j : ℕ) → dig (2 ^ j) j ≡ 1
unfolding dig
dig-one zero = refl
dig-one (suc j) = let e : 2 ^ suc j / 2 ≡ 2 ^ j = omega (arith, pow-suc 2 j) in rw e (dig-one j)

pub dig-other : (j i : ℕ) → i ≢ j → dig (2 ^ j) i ≡ 0
unfolding dig
dig-other zero zero n = absurd (n refl)
dig-other zero (suc i) n = dig-zero i
dig-other (suc j) zero n = omega (arith, pow-suc 2 j)
dig-other (suc j) (suc i) n = let e : 2 ^ suc j / 2 ≡ 2 ^ j = omega (arith, pow-suc 2 j) in rw e (dig-other j i (λ p. n (ap suc p)))

-- the complement in k digits, which `!` makes
pub dig-not : (k x i : ℕ) → x < 2 ^ k → i < k → dig (2 ^ k - 1 - x) i ≡ 1 - dig x i
unfolding dig
dig-not zero x i l h = absurd (omega arith)
dig-not (suc k) x zero l h = omega (arith, pow-suc 2 k)
dig-not (suc k) x (suc i) l h =
    let p : 2 ^ suc k ≡ 2 ^ k * 2 = pow-suc 2 k in
    let e : (2 ^ suc k - 1 - x) / 2 ≡ 2 ^ k - 1 - x / 2 = omega arith in
    rw e (dig-not k (x / 2) i (omega arith) (omega arith))

-- a set digit taken away
pub dig-less : (x j : ℕ) → dig x j ≡ 1 → (2 ^ j ≤ x) × ((i : ℕ) → i ≢ j → dig (x - 2 ^ j) i ≡ dig x i) × (dig (x - 2 ^ j) j ≡ 0)
unfolding dig
dig-less x zero h = (omega arith, λ i n. go i n, omega arith)
  where
    go : (i : ℕ) → i ≢ 0 → dig (x - 1) i ≡ dig x i
    go zero n = absurd (n refl)
    go (suc i) n = let e : (x - 1) / 2 ≡ x / 2 = omega arith in ap (λ (y : ℕ). dig y i) e
dig-less x (suc j) h =
    let r = dig-less (x / 2) j h in
    let p : 2 ^ suc j ≡ 2 ^ j * 2 = pow-suc 2 j in
    let e : (x - 2 ^ suc j) / 2 ≡ x / 2 - 2 ^ j = omega (arith, r.0) in
    let z : (x - 2 ^ suc j) % 2 ≡ x % 2 = omega (arith, r.0) in
    (omega (arith, r.0), λ i n. go e z r.1 i n, rw e r.2)
  where
    go : (x - 2 ^ suc j) / 2 ≡ x / 2 - 2 ^ j → (x - 2 ^ suc j) % 2 ≡ x % 2 → ((i : ℕ) → i ≢ j → dig (x / 2 - 2 ^ j) i ≡ dig (x / 2) i)
        → (i : ℕ) → i ≢ suc j → dig (x - 2 ^ suc j) i ≡ dig x i
    go e z r zero n = z
    go e z r (suc i) n = rw e (r i (λ q. n (ap suc q)))

-- what is shifted down by s
pub dig_shr : (x s i : ℕ) → dig (x / 2 ^ s) i ≡ dig x (s + i)
unfolding dig
dig_shr x zero i = let e : x / 1 ≡ x = omega arith in let z : 0 + i ≡ i = omega arith in rw (e, z)
dig_shr x (suc s) i =
    let z : suc s + i ≡ suc (s + i) = omega arith in
    let o : 1 + s ≡ suc s = omega arith in
    let e : x / 2 / 2 ^ s ≡ x / 2 ^ (1 + s) = shr-shr x 1 s in
    rw (z, ← o, ← e) (dig_shr (x / 2) s i)

-- a number with no digit set
pub none_set : (k x : ℕ) → x < 2 ^ k → ((i : ℕ) → i < k → dig x i ≡ 0) → x ≡ 0
unfolding dig
none_set zero x l h = omega arith
none_set (suc k) x l h =
    let z : x / 2 ≡ 0 = none_set k (x / 2) (omega (arith, pow-suc 2 k)) (λ i b. h (suc i) (omega arith)) in
    omega (arith, h 0 (omega arith))

-- the lowest set digit
pub low_set : (k x : ℕ) → x < 2 ^ k → x ≢ 0
    → (count_trailing_zeros k x < k) × (dig x (count_trailing_zeros k x) ≡ 1) × ((i : ℕ) → i < count_trailing_zeros k x → dig x i ≡ 0)
unfolding dig count_trailing_zeros
low_set zero x l n = absurd (n (omega arith))
low_set (suc k) x l n = go (x % 2) refl (λ a b. low_set k (x / 2) a b)
  where
    go : (d : ℕ) → x % 2 ≡ d
        → (x / 2 < 2 ^ k → x / 2 ≢ 0 → (count_trailing_zeros k (x / 2) < k) × (dig (x / 2) (count_trailing_zeros k (x / 2)) ≡ 1) × ((i : ℕ) → i < count_trailing_zeros k (x / 2) → dig (x / 2) i ≡ 0))
        → (under d (count_trailing_zeros k (x / 2)) < suc k) × (dig x (under d (count_trailing_zeros k (x / 2))) ≡ 1) × ((i : ℕ) → i < under d (count_trailing_zeros k (x / 2)) → dig x i ≡ 0)
    go zero e rec =
        let r = rec (omega (arith, pow-suc 2 k)) (λ z. n (omega arith)) in
        (omega (arith, r.0), r.1, λ i b. low e r.2 i b)
      where
        low : x % 2 ≡ 0 → ((i : ℕ) → i < count_trailing_zeros k (x / 2) → dig (x / 2) i ≡ 0) → (i : ℕ) → i < suc (count_trailing_zeros k (x / 2)) → dig x i ≡ 0
        low e r zero b = e
        low e r (suc i) b = r i (omega arith)
    go (suc d) e rec = (omega arith, omega arith, λ i b. absurd (omega arith))

-- x & (x - 1) takes the lowest set digit away
pub drop_low : (k x : ℕ) → x < 2 ^ k → x ≢ 0 → bit_and x (x - 1) ≡ x - 2 ^ count_trailing_zeros k x
unfolding count_trailing_zeros
drop_low zero x l n = absurd (n (omega arith))
drop_low (suc k) x l n = go (x % 2) refl (λ a b. drop_low k (x / 2) a b)
  where
    go : (d : ℕ) → x % 2 ≡ d → (x / 2 < 2 ^ k → x / 2 ≢ 0 → bit_and (x / 2) (x / 2 - 1) ≡ x / 2 - 2 ^ count_trailing_zeros k (x / 2))
        → bit_and x (x - 1) ≡ x - 2 ^ under d (count_trailing_zeros k (x / 2))
    go zero e rec =
        let r = rec (omega (arith, pow-suc 2 k)) (λ z. n (omega arith)) in
        let p : 2 ^ suc (count_trailing_zeros k (x / 2)) ≡ 2 ^ count_trailing_zeros k (x / 2) * 2 = pow-suc 2 _ in
        let h : (x - 1) / 2 ≡ x / 2 - 1 = omega arith in
        let s : bit_and x (x - 1) ≡ bit_and (x / 2) (x / 2 - 1) * 2 + min (x % 2) ((x - 1) % 2) = and_step x (x - 1) ∙ ap (λ (y : ℕ). bit_and (x / 2) y * 2 + min (x % 2) ((x - 1) % 2)) h in
        omega arith
    go (suc d) e rec =
        let h : (x - 1) / 2 ≡ x / 2 = omega arith in
        let s : bit_and x (x - 1) ≡ bit_and (x / 2) (x / 2) * 2 + min (x % 2) ((x - 1) % 2) = and_step x (x - 1) ∙ ap (λ (y : ℕ). bit_and (x / 2) y * 2 + min (x % 2) ((x - 1) % 2)) h in
        omega (arith, and_self (x / 2))

-- a number below 2 ^ k has no digit set from k on
pub dig-bound : (k x i : ℕ) → x < 2 ^ k → dig x i ≡ 1 → i < k
unfolding dig
dig-bound zero x i l h = let z : x ≡ 0 = omega arith in absurd (let w : dig 0 i ≡ 1 = rw (← z) h in omega (arith, dig-zero i))
dig-bound (suc k) x zero l h = omega arith
dig-bound (suc k) x (suc i) l h = omega (arith, dig-bound k (x / 2) i (omega (arith, pow-suc 2 k)) h)

-- a number whose digits are no greater is no greater
pub dig-most : (k x y : ℕ) → x < 2 ^ k → ((i : ℕ) → i < k → dig x i ≤ dig y i) → x ≤ y
unfolding dig
dig-most zero x y l h = omega arith
dig-most (suc k) x y l h =
    let r : x / 2 ≤ y / 2 = dig-most k (x / 2) (y / 2) (omega (arith, pow-suc 2 k)) (λ i b. h (suc i) (omega arith)) in
    omega (arith, h 0 (omega arith))
