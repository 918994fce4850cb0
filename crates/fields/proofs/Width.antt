-- How many digits a number has at most.
use Rattle.std.proofs.Common.{◌≡◌, refl, ap, ◌∙◌, ℕ, zero, suc, ◌+◌, ◌*◌, ◌/◌, ◌^◌, ◌≤◌, ◌<◌, arith, ltb, length, pow-add}
use Rattle.fields.specs.Numbers.{shown}
use Rattle.fields.proofs.Tests.{by_test}
use Rattle.fields.proofs.Shown.{shown-short, shown-long}

pub shown-most : (d v : ℕ) → v < 10 ^ (d + 1) → length (shown v) ≤ d + 1
shown-most zero v h = omega (arith, shown-short v h)
shown-most (suc d) v h =
    let one : suc d + 1 ≡ 1 + (d + 1) = omega arith in
    let ten : 10 ^ (suc d + 1) ≡ 10 * 10 ^ (d + 1) = ap (λ (i : ℕ). 10 ^ i) one ∙ pow-add 10 1 (d + 1) in
    by_test v 10 (ltb v 10) refl
    (λ (l : v < 10). omega (arith, shown-short v l))
    (λ (l : 10 ≤ v). omega (arith, shown-long v l, shown-most d (v / 10) (omega arith)))
