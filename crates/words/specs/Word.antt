-- Sets of numbers as words: digit x of a word is 1 where x is a member. What the calls on sets answer.
use Rattle.std.specs.Prelude.{◌≡◌, ◌≢◌, ℕ, zero, suc, ◌-◌, ◌/◌, ◌%◌, ◌≤◌, ◌<◌, min, max, Option, MatchOption}
use Rattle.std.specs.Int.Count.{count_trailing_zeros}

-- digit i of x, the lowest first
unfoldable pub dig : (x i : ℕ) → ℕ
dig x zero = x % 2
dig x (suc i) = dig (x / 2) i

-- x is a member of s
abbrev pub In : (x s : ℕ) → Type 0
In x s = dig s x ≡ 1

-- r is the set m without its member j, and as a number it is the lesser
pub record Pop (m j r : ℕ) : Type 0 where
  pub bound : j < 64
  pub here : In j m
  pub gone : dig r j ≡ 0
  pub other : (i : ℕ) → i ≢ j → dig r i ≡ dig m i
  pub less : r < m

-- a step through the set m: its lowest member, which leaves r, or none of an empty set, which leaves it empty
abbrev pub Visits : (m : ℕ) → Option ℕ → (r : ℕ) → Type 0
Visits m x r = MatchOption x ((m ≡ 0) × (r ≡ 0)) (λ j. (j ≡ count_trailing_zeros 64 m) × Pop m j r)

-- r holds the members of a that are not in b, and as a number it is no greater than a
pub record Minus (a b r : ℕ) : Type 0 where
  pub each : (i : ℕ) → i < 64 → dig r i ≡ min (dig a i) (1 - dig b i)
  pub sub : (i : ℕ) → dig r i ≤ dig a i
  pub keep : (i : ℕ) → In i a → dig b i ≡ 0 → In i r
  pub off : (i : ℕ) → In i b → dig r i ≡ 0
  pub most : r ≤ a

-- r is the set m with j
pub record With (m j r : ℕ) : Type 0 where
  pub here : In j r
  pub other : (i : ℕ) → i ≢ j → dig r i ≡ dig m i

-- r holds the numbers below n
pub record Below (n r : ℕ) : Type 0 where
  pub each : (i : ℕ) → i < n → In i r
  pub none : (i : ℕ) → n ≤ i → dig r i ≡ 0

-- r holds the members of a, of b and of both
pub record Joined (a b r : ℕ) : Type 0 where
  pub each : (i : ℕ) → dig r i ≡ max (dig a i) (dig b i)

-- r holds what is a member of a and of b
pub record Met (a b r : ℕ) : Type 0 where
  pub each : (i : ℕ) → dig r i ≡ min (dig a i) (dig b i)
