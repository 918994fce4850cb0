-- The front of what follows a place: its first bytes, and the rest behind them.
use Rattle.std.proofs.Common.{◌≡◌, List, [], ◌∷◌, ℕ, suc, ◌+◌, ◌<◌, length, drop, get_or, add-one, arith, drop-cons}
use Rattle.std.proofs.Math.Seq.{drop-length}

module _ (s : List ℕ) (i : ℕ) where
  pub front : i < length s → drop i s ≡ get_or s i 0 ∷ drop (i + 1) s
  front h = rw (add-one, drop-cons s i 0)

  pub front_last : i + 1 ≡ length s → drop i s ≡ get_or s i 0 ∷ []
  front_last h =
      let a : suc i ≡ length s = omega arith in
      let here : i < length s = omega arith in
      simp (drop-cons s i 0 here, a, drop-length)

pub front_two : (s : List ℕ) (i : ℕ) → i + 1 < length s → drop i s ≡ get_or s i 0 ∷ get_or s (i + 1) 0 ∷ drop (i + 2) s
front_two s i h =
    let a : i + 1 + 1 ≡ i + 2 = omega arith in
    let here : i < length s = omega arith in
    simp (front s i here, front s (i + 1) h, a)

pub front_second : (s : List ℕ) (i : ℕ) → i + 1 < length s → drop (i + 1) s ≡ get_or s (i + 1) 0 ∷ drop (i + 2) s
front_second s i h =
    let a : i + 1 + 1 ≡ i + 2 = omega arith in
    simp (front s (i + 1) h, a)
