-- What `letters` answers: the letters that make a label true, as the bits of a number, or why no label stands there.
use Rattle.std.specs.Prelude.{◌≡◌, Bool, true, false, ℕ, ◌/◌, ◌%◌, ◌^◌, ◌<◌, Result, Ok, Err}
use Rattle.automaton.specs.declared.Refusal.{Refusal}
use Rattle.tokens.specs.declared.Token.{Token}
use Rattle.labels.specs.declared.Lettered.{Lettered}
use Rattle.labels.specs.Label.{Label, holds, deepest, Labelled}
use Rattle.labels.specs.Stands.{want, Fails}

-- a truth as a bit
abbrev pub flag : Bool → ℕ
flag true = 1
flag false = 0

-- bit a of a number
abbrev pub bit : (x a : ℕ) → ℕ
bit x a = x / 2 ^ a % 2

-- bit a tells whether the letter a makes the label true, for the 16 letters that four propositions have
abbrev pub Agrees : (mask : ℕ) → Label → Type 0
Agrees m l = (a : ℕ) → a < 16 → bit m a ≡ flag (holds l a)

-- a label that `]` ends stands from i to j, and the mask has its letters
pub record Read (T : ℕ → Token) (p i mask j : ℕ) : Type 0 where
  pub label : Label
  pub labelled : Labelled T p i label j
  pub agrees : Agrees mask label

abbrev pub Lettering : (T : ℕ → Token) → (p i : ℕ) → Result Lettered Refusal → Type 0
Lettering T p i (Ok l) = Read T p i l.set l.next
Lettering T p i (Err r) = Fails T p (want deepest 0) i r
