-- Going by a test of two numbers.
use Rattle.std.proofs.Common.{◌≡◌, Bool, true, false, ℕ, ◌≤◌, ◌<◌, ltb-true, ltb-false, ltb}

-- below, or not
pub by_test : {A : Type 0} (a b : ℕ) (t : Bool) → ltb a b ≡ t → (a < b → A) → (b ≤ a → A) → A
by_test a b true e f g = f (ltb-true a b e)
by_test a b false e f g = g (ltb-false a b e)
