-- What reading a body token by token comes to.
use Rattle.std.specs.Prelude.{◌≡◌, List, ◌∷◌, ℕ, ◌≤◌, ◌<◌, ◌≢◌, set, Some, None}
use Rattle.automaton.specs.declared.Refusal.{Refusal}
use Rattle.automaton.specs.declared.Refusal.TheVariants.{Foreign}
use Rattle.tokens.specs.declared.Token.{Token}
use Rattle.tokens.specs.Here.{Number}
use Rattle.tokens.specs.declared.Sort.TheVariants as sort
use Rattle.labels.specs.Label.{Label, deepest, Labelled}
use Rattle.labels.specs.Stands.{want, Fails}
use Rattle.bodies.specs.declared.Entry.{Entry}
use Rattle.bodies.specs.declared.Due.{Due}
use Rattle.bodies.specs.declared.Due.TheVariants as due
use Rattle.bodies.specs.declared.Next.TheVariants as next
use Rattle.bodies.specs.Body.{Edge, listed, accepting}
use Rattle.bodies.specs.Stands.{step}

-- what reading comes to
pub data Outcome : Type 0 where
  held : (sheet : List Entry) → List Edge → Outcome
  refused : Refusal → Outcome

-- n states, p propositions; T gives the token at or after a place
module _ (T : ℕ → Token) (n p : ℕ) where
  -- behind the `[` of an edge of q: the label, its `]` and the target
  pub data Led (q i : ℕ) : Edge → (j : ℕ) → Type 0 where
    led : {g r j : ℕ} {l : Label} → Labelled T p i l g → Number T g r j → r < n → Led q i (record { from = q; label = l; to = r }) j

  -- or the first token that cannot stand there: in the label, or where the target is due
  pub data Astray (i : ℕ) : Refusal → Type 0 where
    in_label : {r : Refusal} → Fails T p (want deepest 0) i r → Astray i r
    no_number : {g a : ℕ} {l : Label} → Labelled T p i l g → ((v : ℕ) → (T g).sort ≢ sort.Number v) → (T g).at ≡ a → Astray i (Foreign a)
    no_state : {g v a : ℕ} {l : Label} → Labelled T p i l g → (T g).sort ≡ sort.Number v → n ≤ v → (T g).at ≡ a → Astray i (Foreign a)

  -- From i on, where d is due, with this sheet and these edges so far, reading comes to an outcome.
  -- "place: first byte of the first token that cannot stand there"
  pub data Walk : Due → (sheet : List Entry) → List Edge → (i : ℕ) → Outcome → Type 0 where
    goes : {d c : Due} {s : List Entry} {es : List Edge} {i j : ℕ} {o : Outcome}
        → step n d s (T i).sort ≡ Some (next.To c) → (T i).next ≡ j → Walk c s es j o → Walk d s es i o
    lists : {d : Due} {s : List Entry} {es : List Edge} {i j q : ℕ} {o : Outcome}
        → step n d s (T i).sort ≡ Some (next.List q) → (T i).next ≡ j → Walk (due.Named q) (set s q listed) es j o → Walk d s es i o
    marks : {d : Due} {s : List Entry} {es : List Edge} {i j q : ℕ} {o : Outcome}
        → step n d s (T i).sort ≡ Some (next.Mark q) → (T i).next ≡ j → Walk (due.Zero q) (set s q accepting) es j o → Walk d s es i o
    edge : {d : Due} {s : List Entry} {es : List Edge} {e : Edge} {i h j q : ℕ} {o : Outcome}
        → step n d s (T i).sort ≡ Some (next.Edge q) → (T i).next ≡ h → Led q h e j → Walk (due.Edges q) s (e ∷ es) j o → Walk d s es i o
    astray : {d : Due} {s : List Entry} {es : List Edge} {i h q : ℕ} {r : Refusal}
        → step n d s (T i).sort ≡ Some (next.Edge q) → (T i).next ≡ h → Astray h r → Walk d s es i (refused r)
    over : {d : Due} {s : List Entry} {es : List Edge} {i : ℕ}
        → step n d s (T i).sort ≡ Some next.Done → Walk d s es i (held s es)
    stuck : {d : Due} {s : List Entry} {es : List Edge} {i a : ℕ}
        → step n d s (T i).sort ≡ None → (T i).at ≡ a → Walk d s es i (refused (Foreign a))
