-- `letters` answers exactly the label that stands there: its letters and the place behind it, and a refusal only where none stands.
use Rattle.std.proofs.Common.{◌≡◌, ap, subst, ℕ, Result, Ok, Err}
use Rattle.automaton.specs.declared.Refusal.{Refusal}
use Rattle.tokens.specs.declared.Token.{Token}
use Rattle.labels.specs.declared.Lettered.{Lettered}
use Rattle.labels.specs.Label.{Label, Labelled}
use Rattle.labels.specs.Letters.{Agrees, Lettering}
use Rattle.labels.proofs.One.{labelled-one, labelled-stands}

-- an answer is a mask with the letters of a label, and a place
pub record LettersOf (l : Label) (j : ℕ) (answer : Result Lettered Refusal) : Type 0 where
  pub mask : ℕ
  pub is : answer ≡ Ok (record { set = mask; next = j })
  pub agrees : Agrees mask l

pub exact : (T : ℕ → Token) (p i : ℕ) (answer : Result Lettered Refusal) {l : Label} {j : ℕ} → Lettering T p i answer → Labelled T p i l j → LettersOf l j answer
exact T p i (Ok x) read w =
    let one = labelled-one read.labelled w in
    record { mask = x.set; is = ap (λ (k : ℕ). Ok (record { set = x.set; next = k })) one.1; agrees = subst (λ (k : Label). Agrees x.set k) one.0 read.agrees }
exact T p i (Err r) fails w = absurd (labelled-stands w fails)
