-- Bytes listed for the numbers of a stretch, one for each, also as they are written one by one; and the bytes 0 and 1.
use mathlib.Core.Path.{◌≡◌, refl, sym, ap, ◌∙◌, subst}
use mathlib.Core.Logic.{◌↔◌}
use mathlib.Core.Bool.{Bool, true, false}
use mathlib.Core.List.{List, [], ◌∷◌, ◌++◌, map}
use Prim.Native.Nat.{ℕ, zero, suc, ◌+◌, ◌≤◌, ◌<◌}
use native.Mathlib.Nat.{add-zero, zero-add, not-suc-le-zero, le_of_suc-le-suc}
use native.Mathlib.Numerals.{add-one}
use native.Mathlib.Omega.{arith}
use lib.Dec.{eqb}
use lib.ListN.{length, get_or, set, drop, length-map}
use Rattle.games.specs.Settle.{ascending}
use Rattle.simulation.specs.Rules.{bit}

-- byte i is what f makes of the number v + i
pub map_at : (f : ℕ → ℕ) (v c i : ℕ) → i < c → get_or (map f (ascending v c)) i 0 ≡ f (v + i)
map_at f v zero i l = absurd (omega arith)
map_at f v (suc c) zero l = sym (ap f (add-zero v))
map_at f v (suc c) (suc i) l = let e : suc v + i ≡ v + suc i = omega arith in map_at f (suc v) c i (omega arith) ∙ ap f e

-- a stretch of c numbers has c of them
pub length_ascending : (v c : ℕ) → length (ascending v c) ≡ c
length_ascending v zero = refl
length_ascending v (suc c) = ap suc (length_ascending (suc v) c)

-- so has a list of what f makes of them
pub listed_length : (f : ℕ → ℕ) (v c : ℕ) → length (map f (ascending v c)) ≡ c
listed_length f v c = length-map (ascending v c) f ∙ length_ascending v c

-- the front of d written over with f of v, of v + 1 and on: a store of one more
written_suc : (f : ℕ → ℕ) (v i : ℕ) (d : List ℕ) → i < length d
    → set (map f (ascending v i) ++ drop i d) i (f (v + i)) ≡ map f (ascending v (suc i)) ++ drop (suc i) d
written_suc f v i [] l = absurd (not-suc-le-zero l)
written_suc f v zero (x ∷ d) l = rw add-zero
written_suc f v (suc i) (x ∷ d) l =
    let shift : v + suc i ≡ suc v + i = omega arith in
    rw shift (ap (λ (t : List ℕ). f v ∷ t) (written_suc f (suc v) i d (le_of_suc-le-suc l)))

pub written-more : (f : ℕ → ℕ) (i : ℕ) (d : List ℕ) → i < length d
    → set (map f (ascending 0 i) ++ drop i d) i (f i) ≡ map f (ascending 0 (i + 1)) ++ drop (i + 1) d
written-more f i d l =
    subst (λ (j : ℕ). set (map f (ascending 0 i) ++ drop i d) i (f j) ≡ map f (ascending 0 (i + 1)) ++ drop (i + 1) d) (zero-add i) (rw (add-one i) (written_suc f 0 i d l))

-- a truth value's byte is 0 or 1
pub bit-most : (s : Bool) → bit s ≤ 1
bit-most true = omega arith
bit-most false = omega arith

-- and it is 1 exactly for `true`
pub bit-one : (s : Bool) → (bit s ≡ 1) ↔ (s ≡ true)
bit-one true = (λ e. refl, λ e. refl)
bit-one false = (λ e. absurd (omega arith), λ e. ap bit e)

-- so the test for 1 gives it back
pub bit_is : (s : Bool) → eqb (bit s) 1 ≡ s
bit_is true = refl
bit_is false = refl
