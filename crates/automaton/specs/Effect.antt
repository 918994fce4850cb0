-- What a call answers, and what it leaves in the buffers lent to it.
use Rattle.std.specs.Prelude.{◌≡◌}
use Rattle.automaton.specs.declared.Refusal.{Refusal}
use Rattle.automaton.specs.Answer.{Answer, refused, Fault, none, fault}

-- X holds the contents of all the buffers that a call may write to
pub record Effect (X : Type 0) : Type 0 where
  pub answer : Answer
  pub left : X

module _ {X : Type 0} where
  -- "Every refused call returns its number, a place and values 0, and writes to no lent buffer."
  abbrev pub does : Fault → (lent : X) → Effect X → Effect X
  does none x e = e
  does (fault r) x e = record { answer = refused r; left = x }

  -- the effect of a refused call
  abbrev pub Refuses : (lent : X) → Effect X → Type 0
  Refuses x e = (r : Refusal) × (e ≡ record { answer = refused r; left = x })
