-- What is known of a call's effect: when it is accepted, and that a refused one leaves what it was lent.
use mathlib.Core.Path.{◌≡◌, refl, ap}
use mathlib.Core.Logic.{◌≢◌, ◌↔◌}
use native.Mathlib.Omega.{arith}
use Rattle.automaton.specs.Answer.{Answer, Fault, none, fault, unless}
use Rattle.automaton.specs.Effect.{Effect, does, Refuses}
use Rattle.automaton.proofs.Fault.{refusal_numbered, Line, found}

-- ---- accepted

-- an answer, and a call, unless something is at fault
pub unless_also : (f : Fault) (a : Answer) (P Q : Type 0) → Line f P → (a.number ≡ 0) ↔ Q → ((unless f a).number ≡ 0) ↔ (P × Q)
unless_also none a P Q l q = (λ z. (l.0 refl, q.0 z), λ h. q.1 h.1)
unless_also (fault r) a P Q l q = (λ z. absurd (omega (arith, (refusal_numbered r).0)), λ h. absurd (found (l.1 h.0)))

-- an answer that names no refusal
pub always : (a : Answer) → a.number ≡ 0 → (a.number ≡ 0) ↔ Unit {0}
always a z = (λ e. tt, λ e. z)

pub alone : {P : Type 0} → (P × Unit {0}) ↔ P
alone = (λ h. h.0, λ h. (h, tt))

module _ {X : Type 0} where
  -- an effect is its answer and what it leaves
  pub both : {d e : Effect X} → d ≡ e → (d.answer ≡ e.answer) × (d.left ≡ e.left)
  both p = (ap (λ (x : Effect X). x.answer) p, ap (λ (x : Effect X). x.left) p)

  pub does-number : (f : Fault) (x : X) (e : Effect X) (P Q : Type 0) → Line f P → (e.answer.number ≡ 0) ↔ Q → ((does f x e).answer.number ≡ 0) ↔ (P × Q)
  does-number none x e = unless_also none e.answer
  does-number (fault r) x e = unless_also (fault r) e.answer

  -- ---- refused

  pub does-refuse : (f : Fault) (x : X) (e : Effect X) → (e.answer.number ≢ 0 → Refuses x e) → (does f x e).answer.number ≢ 0 → Refuses x (does f x e)
  does-refuse none x e k n = k n
  does-refuse (fault r) x e k n = (r, refl)
