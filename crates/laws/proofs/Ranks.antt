-- The composed rank of two pairs (q,r) and (r,s) goes on as a rank of (q,s) must.
use mathlib.Core.Path.{◌≡◌, refl}
use mathlib.Core.Bool.{Bool, true, false}
use Prim.Native.Nat.{ℕ, zero, suc, ◌+◌, ◌*◌, ◌≤◌, ◌<◌}
use native.Mathlib.Nat.{mul-le-mul_right}
use native.Mathlib.Omega.{arith}
use Rattle.automaton.specs.declared.Mode.{Mode}
use Rattle.automaton.specs.declared.Mode.TheVariants.{Ordinary, Direct, Delayed, Fair}
use Rattle.simulation.specs.Position.{layers}
use Rattle.simulation.specs.Rules.{turn, owed}
use Rattle.simulation.proofs.Turns.{is_idle, owed_lt}
use Rattle.laws.specs.Families.{Fall, round}
use Rattle.laws.specs.Ranks.{composed}
use Rattle.laws.proofs.Families.{owed-round}

-- ---- the composed rank

-- it is bounded as the two ranks are
pub composed-bounded : (m : Mode) (N b d i j : ℕ) → i < N → j < N → composed m N b d i j < N + N + N * N
composed-bounded Ordinary N b d i j h l = omega arith
composed-bounded Direct N b d i j h l = omega arith
composed-bounded Delayed N zero d i j h l = omega arith
composed-bounded Delayed N (suc b) zero i j h l = omega arith
composed-bounded Delayed N (suc b) (suc d) i j h l = omega arith
composed-bounded Fair N b d i j h l = let w : suc j * N ≤ N * N = mul-le-mul_right N l in omega arith

-- in mode 2 it is at most the rank of (q,r) on top of N
composed-most : (N b d i j : ℕ) → j < N → composed Delayed N b d i j ≤ N + i
composed-most N zero d i j l = omega arith
composed-most N (suc b) zero i j l = omega arith
composed-most N (suc b) (suc d) i j l = omega arith

-- and at most the rank of (r,s), if whatever s owes to q it owes to r
composed-least : (N b d i j : ℕ) → b ≤ d → composed Delayed N b d i j ≤ j
composed-least N zero d i j l = omega arith
composed-least N (suc b) zero i j l = absurd (omega arith)
composed-least N (suc b) (suc d) i j l = omega arith

-- ---- the bits

-- what s owes to q it owes to r, or r owes it to q; x, y and z are the marks of the states that q, r and s move to
pub round-owing : (m : Mode) (x y z : Bool) (b c d : ℕ) → b < layers m → b ≤ c + d → round m x z b ≤ round m x y c + round m y z d
round-owing Ordinary x y z b c d h l = l
round-owing Direct x y z b c d h l = l
round-owing Delayed x y true b c d h l = omega arith
round-owing Delayed true true false b c d h l = omega arith
round-owing Delayed true false false b c d h l = omega arith
round-owing Delayed false true false b c d h l = omega arith
round-owing Delayed false false false b c d h l = l
round-owing Fair x y z b c d h l = l

-- the same of beginnings, x, y and z being the marks of q, r and s
pub owed-owing : (m : Mode) (x y z : Bool) → owed m x z ≤ owed m x y + owed m y z
owed-owing m x y z =
    omega (arith, owed-round m x y, owed-round m y z, owed-round m x z, round-owing m x y z 0 0 0 (omega (arith, owed_lt m x y)) (omega arith))

-- a pending bit stays until s accepts, whatever Red's mark
round_pending : (x y z : Bool) → round Delayed x z 1 ≤ round Delayed y z 1
round_pending x y true = omega arith
round_pending true true false = omega arith
round_pending true false false = omega arith
round_pending false true false = omega arith
round_pending false false false = omega arith

-- ---- the composed rank goes on as the two ranks do

-- a bit in range that is not idle, at the marks of Red's and Blue's states
abbrev pub Open : Mode → (b : ℕ) → (red blue : Bool) → Type 0
Open m b x y = (b < layers m) × (is_idle (turn m b x y) ≡ 0)

-- in mode 2 a rank falls while something is pending
pending_falls : (b : ℕ) (x y : Bool) (k p : ℕ) → Open Delayed b x y → 0 < b → Fall (turn Delayed b x y) k p → p < k
pending_falls zero x y k p o h f = absurd (omega arith)
pending_falls (suc zero) x true k p o h f = absurd (omega (arith, o.1))
pending_falls (suc zero) x false k p o h f = omega (arith, f refl)
pending_falls (suc (suc b)) x y k p o h f = absurd (omega (arith, o.0))

-- where the ranks of (q,r) and (r,s) go on, so does theirs; x, y and z are the marks of q, r and s, and with a prime those of the states that they move to
module _ {N i j i' j' : ℕ} (h : i' < N) (l : j' < N) (x' y' z' : Bool) where
  pub composed-fall : (m : Mode) (b c d : ℕ) (x y z : Bool) → Open m b x z → Open m c x y → Open m d y z → b ≤ c + d
      → Fall (turn m c x y) i i' → Fall (turn m d y z) j j'
      → Fall (turn m b x z) (composed m N b d i j) (composed m N (round m x' z' b) (round m y' z' d) i' j')
  composed-fall Ordinary b c d x y z o p r w f g = omega arith
  composed-fall Direct b c d true y true o p r w f g = omega arith
  composed-fall Direct b c d true y false o p r w f g = omega arith
  composed-fall Direct b c d false y z o p r w f g = omega arith
  composed-fall Delayed zero c d x y z o p r w f g = omega arith
  composed-fall Delayed (suc zero) c d x y true o p r w f g = absurd (omega (arith, o.1))
  composed-fall Delayed (suc zero) c zero x y false o p r w f g =
      omega (arith, composed-most N (round Delayed x' z' 1) (round Delayed y' z' 0) i' j' l, pending_falls c x y i i' p (omega arith) f)
  composed-fall Delayed (suc zero) c (suc zero) x y false o p r w f g =
      omega (arith, composed-least N (round Delayed x' z' 1) (round Delayed y' z' 1) i' j' (round_pending x' y' z'), g refl)
  composed-fall Delayed (suc zero) c (suc (suc d)) x y false o p r w f g = absurd (omega (arith, r.0))
  composed-fall Delayed (suc (suc b)) c d x y z o p r w f g = absurd (omega (arith, o.0))
  composed-fall Fair b c d x y true o p r w f g = omega arith
  composed-fall Fair b c d true true false o p r w f g = let n : suc j' * N ≤ j * N = mul-le-mul_right N (omega (arith, g refl)) in omega (arith, g refl)
  composed-fall Fair b c d true false false o p r w f g = let n : j' * N ≤ j * N = mul-le-mul_right N (omega (arith, g refl)) in omega (arith, f refl, g refl)
  composed-fall Fair b c d false true false o p r w f g = let n : suc j' * N ≤ j * N = mul-le-mul_right N (omega (arith, g refl)) in omega (arith, g refl)
  composed-fall Fair b c d false false false o p r w f g = let n : j' * N ≤ j * N = mul-le-mul_right N (omega (arith, g refl)) in omega (arith, f refl, g refl)
