-- Reading a file token by token: its header, then its body. Each text comes to one outcome.
use Rattle.std.specs.Prelude.{ℕ, List, [], Err}
use Rattle.automaton.specs.declared.Refusal.{Refusal}
use Rattle.tokens.specs.declared.Token.{Token}
use Rattle.headers.specs.declared.Header.{Header}
use Rattle.headers.specs.declared.Wanted.TheVariants.{Format}
use Rattle.headers.specs.Header.{unsaid}
use Rattle.headers.specs.Walk as header
use Rattle.bodies.specs.declared.Entry.{Entry}
use Rattle.bodies.specs.declared.Due.TheVariants.{Block}
use Rattle.bodies.specs.Body.{Edge, blank}
use Rattle.bodies.specs.Walk as body
use Rattle.hanoi.specs.File.{File}

-- what reading comes to
pub data Outcome : Type 0 where
  whole : File → Outcome
  refused : Refusal → Outcome

-- T gives the token at or after a place.
pub data Comes (T : ℕ → Token) : Outcome → Type 0 where
  in_header : {r : Refusal} → header.Walk T Format unsaid 0 (Err r) → Comes T (refused r)
  in_body : {h : Header} {j : ℕ} {r : Refusal}
      → header.Walk T Format unsaid 0 (header.held h j)
      → body.Walk T h.states h.props Block blank [] j (body.refused r)
      → Comes T (refused r)
  to_end : {h : Header} {j : ℕ} {sheet : List Entry} {es : List Edge}
      → header.Walk T Format unsaid 0 (header.held h j)
      → body.Walk T h.states h.props Block blank [] j (body.held sheet es)
      → Comes T (whole (record { header = h; sheet = sheet; edges = es }))
