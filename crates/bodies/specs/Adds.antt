-- What `edge` answers and leaves: a promise within this crate.
use Rattle.std.specs.Prelude.{List, ◌∷◌, ℕ, ◌^◌, Result, Ok, Err}
use Rattle.tokens.specs.declared.Token.{Token}
use Rattle.automaton.specs.declared.Refusal.{Refusal}
use Rattle.bodies.specs.Body.{Edge}
use Rattle.bodies.specs.Reads.{Shown}
use Rattle.bodies.specs.Walk.{Led, Astray}

-- an edge of q stands behind the `[` at i, and the marked triples show it with all that they showed before
pub record Added (T : ℕ → Token) (n p q i j : ℕ) (seen after : List ℕ) : Type 0 where
  pub edge : Edge
  pub led : Led T n p q i edge j
  pub shown : (es : List Edge) → Shown n (2 ^ p) es seen → Shown n (2 ^ p) (edge ∷ es) after

-- an edge that ends at j, or the first token that cannot stand there
abbrev pub Adds : (T : ℕ → Token) → (n p q i : ℕ) → Result ℕ Refusal → (seen after : List ℕ) → Type 0
Adds T n p q i (Ok j) seen after = Added T n p q i j seen after
Adds T n p q i (Err r) seen after = Astray T n p i r
