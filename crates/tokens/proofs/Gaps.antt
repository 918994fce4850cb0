-- White space and comments unroll: each law is one way that the loop over a gap goes on or ends.
use Rattle.std.proofs.Common.{◌≡◌, refl, true, false, List, ℕ, zero, suc, ◌+◌, ◌-◌, ◌≤◌, ◌<◌, ltb, length, drop, get_or, Some, None, add-one, arith}
use Rattle.std.proofs.Math.Seq.{drop-length}
use Rattle.fields.proofs.Tests.{by_test}
use Rattle.tokens.specs.Tokens.{blank, opens, shuts, gap}
use Rattle.tokens.proofs.Front.{front_two, front_second, front_last}

-- two bytes or more follow place i
module _ (s : List ℕ) (i : ℕ) (h : i + 1 < length s) where
  pub gap-opens : (c : ℕ) → opens (get_or s i 0) (get_or s (i + 1) 0) ≡ true → gap (drop i s) c i ≡ gap (drop (i + 2) s) (c + 1) (i + 2)
  unfolding gap
  gap-opens zero e = simp (front_two s i h, e)
  gap-opens (suc c) e = simp (front_two s i h, e, add-one (suc c))

  module _ (e : opens (get_or s i 0) (get_or s (i + 1) 0) ≡ false) where
    pub gap-blank : (c : ℕ) → blank (get_or s i 0) ≡ true → c ≡ 0 → gap (drop i s) c i ≡ gap (drop (i + 1) s) c (i + 1)
    unfolding gap
    gap-blank zero f n = simp (front_two s i h, front_second s i h, e, f)
    gap-blank (suc c) f n = absurd (omega arith)

    pub gap-out : (c : ℕ) → blank (get_or s i 0) ≡ false → c ≡ 0 → gap (drop i s) c i ≡ Some i
    unfolding gap
    gap-out zero f n = simp (front_two s i h, e, f)
    gap-out (suc c) f n = absurd (omega arith)

    pub gap-shuts : (c : ℕ) → shuts (get_or s i 0) (get_or s (i + 1) 0) ≡ true → (c ≡ 0 → ⊥) → gap (drop i s) c i ≡ gap (drop (i + 2) s) (c - 1) (i + 2)
    unfolding gap
    gap-shuts zero f n = absurd (n refl)
    gap-shuts (suc c) f n = let k : suc c - 1 ≡ c = omega arith in simp (front_two s i h, e, f, k)

    pub gap_in : (c : ℕ) → shuts (get_or s i 0) (get_or s (i + 1) 0) ≡ false → (c ≡ 0 → ⊥) → gap (drop i s) c i ≡ gap (drop (i + 1) s) c (i + 1)
    unfolding gap
    gap_in zero f n = absurd (n refl)
    gap_in (suc c) f n = simp (front_two s i h, front_second s i h, e, f)

-- one byte follows, outside comments
module _ (s : List ℕ) (i : ℕ) (h : i + 1 ≡ length s) where
  pub gap_last_blank : (c : ℕ) → blank (get_or s i 0) ≡ true → c ≡ 0 → gap (drop i s) c i ≡ Some (i + 1)
  unfolding gap
  gap_last_blank zero f n = simp (front_last s i h, f)
  gap_last_blank (suc c) f n = absurd (omega arith)

  pub gap_last_out : (c : ℕ) → blank (get_or s i 0) ≡ false → c ≡ 0 → gap (drop i s) c i ≡ Some i
  unfolding gap
  gap_last_out zero f n = simp (front_last s i h, f)
  gap_last_out (suc c) f n = absurd (omega arith)

-- none follows
pub gap-end : (s : List ℕ) (c i : ℕ) → i ≡ length s → c ≡ 0 → gap (drop i s) c i ≡ Some i
unfolding gap
gap-end s zero i h n = simp (h, drop-length)
gap-end s (suc c) i h n = absurd (omega arith)

-- the text ends inside a comment
pub gap_open : (s : List ℕ) (c i : ℕ) → i ≤ length s → length s ≤ i + 1 → 0 < c → gap (drop i s) c i ≡ None
unfolding gap
gap_open s zero i l m n = absurd (omega arith)
gap_open s (suc c) i l m n = by_test i (length s) (ltb i (length s)) refl (λ h. simp (front_last s i (omega arith))) (λ h. let e : i ≡ length s = omega arith in simp (e, drop-length))
