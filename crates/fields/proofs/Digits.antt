-- One digit more: what the loop over a field meets.
use Rattle.std.proofs.Common.{Some, None, ◌≡◌, List, ℕ, ◌+◌, ◌-◌, ◌*◌, ◌≤◌, ◌<◌, add-one, lt-ltb, le-ltb, length, get_or, drop, drop-cons}
use lib.Seq.{drop-length}
use Rattle.fields.specs.Numbers.{digits}

module _ (f : List ℕ) (v i : ℕ) (h : i < length f) where
  pub digit_low : get_or f i 0 < 48 → digits v (drop i f) ≡ None
  unfolding digits
  digit_low a = simp (drop-cons f i 0 h, lt-ltb _ _ a)

  pub digit-high : 48 ≤ get_or f i 0 → 57 < get_or f i 0 → digits v (drop i f) ≡ None
  unfolding digits
  digit-high a b = simp (drop-cons f i 0 h, le-ltb _ _ a, lt-ltb _ _ b)

  module _ (a : 48 ≤ get_or f i 0) (b : get_or f i 0 ≤ 57) where
    pub digit_much : 65535 < v * 10 + (get_or f i 0 - 48) → digits v (drop i f) ≡ None
    unfolding digits
    digit_much m = simp (drop-cons f i 0 h, le-ltb _ _ a, le-ltb _ _ b, lt-ltb _ _ m)

    pub digit-on : v * 10 + (get_or f i 0 - 48) ≤ 65535 → digits v (drop i f) ≡ digits (v * 10 + (get_or f i 0 - 48)) (drop (i + 1) f)
    unfolding digits
    digit-on m = simp (drop-cons f i 0 h, le-ltb _ _ a, le-ltb _ _ b, le-ltb _ _ m, add-one)

pub digit-end : (f : List ℕ) (v i : ℕ) → i ≡ length f → digits v (drop i f) ≡ Some v
unfolding digits
digit-end f v i e = simp (e, drop-length)
