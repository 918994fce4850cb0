-- What the private functions of this crate promise to each other, and nobody else. T gives the token at or after a place.
use Rattle.std.specs.Prelude.{◌≡◌, ◌≢◌, Bool, false, cond, not as flip, ℕ, Result, Ok, Err}
use Rattle.std.specs.Int.Bits.{bit_xor}
use Rattle.automaton.specs.declared.Refusal.{Refusal}
use Rattle.automaton.specs.declared.Refusal.TheVariants.{Foreign}
use Rattle.tokens.specs.declared.Token.{Token}
use Rattle.tokens.specs.Sorts.{is}
use Rattle.tokens.specs.declared.Sort.{Sort}
use Rattle.tokens.specs.declared.Sort.TheVariants as sort
use Rattle.labels.specs.declared.Lettered.{Lettered}
use Rattle.tokens.specs.Here.{Here}
use Rattle.labels.specs.Label.{Label, Level, unit, Is}
use Rattle.labels.specs.Stands.{want, Fails}
use Rattle.labels.specs.Letters.{Agrees}

-- a label of a level stands from i to j, and the mask has its letters
pub record Found (T : ℕ → Token) (p : ℕ) (v : Level) (d i mask j : ℕ) : Type 0 where
  pub label : Label
  pub is : Is T p v d i label j
  pub agrees : Agrees mask label

-- what `label` and `unit` answer: that, or the walk's refusal, however many brackets are open
abbrev pub Reading : (T : ℕ → Token) → (p : ℕ) → Level → (d i : ℕ) → Result Lettered Refusal → Type 0
Reading T p v d i (Ok l) = Found T p v d i l.set l.next
Reading T p v d i (Err r) = (o : ℕ) → Fails T p (want d o) i r

-- neither `&` nor `|` is the sort
abbrev pub Past : Sort → Type 0
Past k = (k ≢ sort.And) × (k ≢ sort.Or)

-- a label was read as far as it goes
abbrev pub Whole : (T : ℕ → Token) → Result Lettered Refusal → Type 0
Whole T (Ok l) = Past (T l.next).sort
Whole T (Err r) = Unit {0}

-- a row of `!` stands from i to j
pub data Nots (T : ℕ → Token) : (i : ℕ) → (odd : Bool) → (j : ℕ) → Type 0 where
  none : {i : ℕ} → Nots T i false i
  more : {i h j : ℕ} {odd : Bool} → Nots T i odd h → Here T h sort.Not j → Nots T i (flip odd) j

-- the other letters, behind an odd row of `!`
abbrev pub turned_of : (odd : Bool) → Lettered → Lettered
turned_of b l = record { set = cond b (bit_xor l.set 65535) l.set; next = l.next }

-- what was read, if a token of this sort ends it
abbrev pub ended_of : (T : ℕ → Token) → Sort → Lettered → Result Lettered Refusal
ended_of T k l = let x = T l.next in cond (is x.sort k) (Ok (record { set = l.set; next = x.next })) (Err (Foreign x.at))

-- what `atom` answers of a token, wherever it stands
abbrev pub Atom : (p : ℕ) → Token → Result Lettered Refusal → Type 0
Atom p x r = (T : ℕ → Token) (d i : ℕ) → T i ≡ x → Reading T p unit d i r
