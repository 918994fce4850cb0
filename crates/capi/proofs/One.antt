-- The promises leave no choice. Each is that of an effect, so one theorem serves them all.
use Rattle.std.proofs.Common.{◌≡◌, sym, ◌∙◌}
use Rattle.automaton.specs.Effect.{Effect}
use Rattle.capi.specs.declared.Answer.{Answer}
use Rattle.capi.specs.Exported.{given}

-- two structs with the same number, place and values are the same
pub one-given : (r s : Answer) → given r ≡ given s → r ≡ s
one-given r s e = λ i. record { number = (e i).number; place = (e i).place; value = (e i).values }

-- two results, with what they left in the lent buffers, that meet the promise of an exported function are the same
pub one-effect : {X : Type 0} (e : Effect X) (r s : Answer) (x y : X)
    → (given r ≡ e.answer) × (x ≡ e.left) → (given s ≡ e.answer) × (y ≡ e.left) → (r ≡ s) × (x ≡ y)
one-effect e r s x y p q = (one-given r s (p.0 ∙ sym q.0), p.1 ∙ sym q.1)
