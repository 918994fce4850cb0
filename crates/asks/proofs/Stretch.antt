-- High and Low along a stretch of moves: one more from the front, and none left.
use mathlib.Core.Path.{◌≡◌}
use mathlib.Core.List.{map}
use Prim.Native.Nat.{ℕ, suc, ◌+◌, ◌-◌, ◌≤◌, ◌<◌, min, max}
use native.Mathlib.Omega.{arith}
use native.Mathlib.Numerals.{add-one}
use Rattle.games.specs.Game.{highest, lowest}
use Rattle.games.specs.Settle.{ascending}

module _ (f goal : ℕ → ℕ) (i hi : ℕ) where
  pub high-step : i < hi → highest f (map goal (ascending i (hi - i))) ≡ max (f (goal i)) (highest f (map goal (ascending (i + 1) (hi - (i + 1)))))
  unfolding highest
  high-step h =
      let e : hi - i ≡ suc (hi - (i + 1)) = omega arith in
      rw (e, add-one)

  pub low_step : (top : ℕ) → i < hi → lowest top f (map goal (ascending i (hi - i))) ≡ min (f (goal i)) (lowest top f (map goal (ascending (i + 1) (hi - (i + 1)))))
  unfolding lowest
  low_step top h =
      let e : hi - i ≡ suc (hi - (i + 1)) = omega arith in
      rw (e, add-one)

  pub high_end : hi ≤ i → highest f (map goal (ascending i (hi - i))) ≡ 0
  unfolding highest
  high_end h =
      let e : hi - i ≡ 0 = omega arith in
      rw e

  pub low_end : (top : ℕ) → hi ≤ i → lowest top f (map goal (ascending i (hi - i))) ≡ top
  unfolding lowest
  low_end top h =
      let e : hi - i ≡ 0 = omega arith in
      rw e
