-- What `read` answers and leaves: the promise of `read`.
use Rattle.std.specs.Prelude.{◌≡◌, List, [], ℕ, ◌*◌, ◌/◌, ◌%◌, ◌^◌, ◌≤◌, ◌<◌, length, get_or, Result, Ok, Err}
use Rattle.automaton.specs.Limits.{most_states}
use Rattle.automaton.specs.declared.Refusal.{Refusal}
use Rattle.simulation.specs.Rules.{bit}
use Rattle.tokens.specs.declared.Token.{Token}
use Rattle.triples.specs.Triples.{most_triples}
use Rattle.bodies.specs.declared.Entry.{Entry}
use Rattle.bodies.specs.declared.Due.TheVariants.{Block}
use Rattle.bodies.specs.Body.{Edge, blank, leads}
use Rattle.bodies.specs.Walk.{held, refused, Walk}

-- the triples that edges lead along, of n states and k letters, are marked with 1 and no others; where there are more states than an automaton has, nothing is said
pub record Shown (n k : ℕ) (es : List Edge) (seen : List ℕ) : Type 0 where
  pub all : length seen ≡ most_triples
  pub each : n ≤ most_states → (x : ℕ) → x < n * k * n → get_or seen x 0 ≡ bit (leads es (x / n / k) (x / n % k) (x % n))

-- a body that was read: its edges, which the marked triples show
pub record Gathered (T : ℕ → Token) (n p i : ℕ) (sheet : List Entry) (seen : List ℕ) : Type 0 where
  pub edges : List Edge
  pub walked : Walk T n p Block blank [] i (held sheet edges)
  pub shown : Shown n (2 ^ p) edges seen

abbrev pub Reads : (T : ℕ → Token) → (n p i : ℕ) → Result (Unit {0}) Refusal → (sheet : List Entry) → (seen : List ℕ) → Type 0
Reads T n p i (Ok u) sheet seen = Gathered T n p i sheet seen
Reads T n p i (Err r) sheet seen = Walk T n p Block blank [] i (refused r)
