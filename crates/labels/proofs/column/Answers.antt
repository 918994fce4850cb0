-- `column` meets its contract: each of the four numbers has the letters of its proposition, by the 16 tests.
use Rattle.std.proofs.Common.{◌≡◌, refl, sym, subst, ℕ, arith}
use Rattle.labels.specs.Label.{prop, holds}
use Rattle.labels.specs.Letters.{Agrees}
use Rattle.labels.proofs.Masks.{agree, agrees-by}
use Rattle.labels.proofs.column.Goals as goal

pub returns-in-0 : goal.returns-in-0
unfolding agree holds
returns-in-0 c = subst (λ (x : ℕ). Agrees 43690 (prop x)) (sym c.in-0.is) (agrees-by 43690 (prop 0) refl)

pub returns-in-1 : goal.returns-in-1
unfolding agree holds
returns-in-1 c = subst (λ (x : ℕ). Agrees 52428 (prop x)) (sym c.in-1.is) (agrees-by 52428 (prop 1) refl)

pub returns-in-2 : goal.returns-in-2
unfolding agree holds
returns-in-2 c = subst (λ (x : ℕ). Agrees 61680 (prop x)) (sym c.in-2.is) (agrees-by 61680 (prop 2) refl)

pub returns-in_default : goal.returns-in_default
unfolding agree holds
returns-in_default c =
    let e : c.args.i ≡ 3 = omega arith in
    subst (λ (x : ℕ). Agrees 65280 (prop x)) (sym e) (agrees-by 65280 (prop 3) refl)
