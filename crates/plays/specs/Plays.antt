-- Simulation as paper 001 has it (section 2.2, Definitions 1 and 2): Duplicator's strategy may remember the whole play, and infinite plays are judged.
-- No entry of a table is spoken of, and no position: only states, letters and moves.
use Rattle.std.specs.Prelude.{◌≡◌, true, ℕ, zero, suc, ◌≤◌}
use Rattle.automaton.specs.declared.Mode.{Mode}
use Rattle.automaton.specs.declared.Mode.TheVariants.{Ordinary, Direct, Delayed, Fair}
use Rattle.automaton.specs.Board.{Board, accepts}
use Rattle.simulation.specs.Moves.{Moves}

-- ---- strategies

-- "the history of the game up to a certain point", q0 q'0 a0 q1 q'1 a1 .. ai qi+1, when Blue is to be placed: Red's first state, then for each round
-- the state q' on which Blue stood, and the letter a and the state q of Red's move. In the paper the histories are Q(QΣQ)*.
pub data History : Type 0 where
  first : (q : ℕ) → History
  round : History → (q' a q : ℕ) → History

-- where Red stands
abbrev pub red : History → ℕ
red (first q) = q
red (round h q' a q) = q

-- Red began on q, and made moves of the automaton: "(qj,aj,qj+1) ∈ Δ"; Blue was placed by f: "q'j = f(q0 q'0 a0 .. qj)".
abbrev pub KeepsTo : Board → (f : History → ℕ) → (q : ℕ) → History → Type 0
KeepsTo B f q (first q₀) = q₀ ≡ q
KeepsTo B f q (round h q' a q₁) = KeepsTo B f q h × (q' ≡ f h) × Moves B (red h) a q₁

-- "f is a strategy for Duplicator if f(q0) = q'0 and (q'i,ai,q'i+1) ∈ Δ holds for every sequence q0 q'0 a0 q1 q'1 a1 .. ai qi+1" as above.
-- The paper's f is partial; here it has some value on the other histories too, which nothing looks at.
pub record Strategy (B : Board) (f : History → ℕ) (q r : ℕ) : Type 0 where
  pub begins : f (first q) ≡ r
  pub answers : (h : History) (q' a q₁ : ℕ) → KeepsTo B f q (round h q' a q₁) → Moves B q' a (f (round h q' a q₁))

-- ---- infinite plays
-- Where Blue cannot move "the game halts and Spoiler wins": then f is no strategy. Where Red cannot move Duplicator wins, as document 01 decides
-- (the paper's automata have no dead ends): then there is no infinite play to be judged.

-- "a run .. is a sequence π = q0 a0 q1 a1 q2 .. such that for all i, (qi,ai,qi+1) ∈ Δ"
pub record Run (B : Board) : Type 0 where
  pub state : ℕ → ℕ
  pub letter : ℕ → ℕ
  pub moves : (i : ℕ) → Moves B (state i) (letter i) (state (suc i))

module _ {B : Board} (f : History → ℕ) (π : Run B) where
  -- q0 q'0 a0 q1 q'1 a1 .. qi, where Red makes the run π and Blue is placed by f
  abbrev pub up_to : ℕ → History
  up_to zero = first (π.state zero)
  up_to (suc i) = round (up_to i) (f (up_to i)) (π.letter i) (π.state (suc i))

  -- "π' = q'0 a0 q'1 a1 q'2 .. is the run defined by q'i+1 = f(q0 q'0 a0 q1 q'1 a1 .. qi+1)": its states
  abbrev pub blue : ℕ → ℕ
  blue i = f (up_to i)

-- "there are infinitely many i such that" X
abbrev pub Often : (X : ℕ → Type 0) → Type 0
Often X = (n : ℕ) → (i : ℕ) × (n ≤ i) × X i

-- ---- winning

-- "no matter how Spoiler plays, Duplicator always wins": f is winning for Red on q at first
abbrev pub Winning : Board → Mode → (f : History → ℕ) → (q : ℕ) → Type 0
-- "as long as the game does not halt, Duplicator wins"
Winning B Ordinary f q = Unit {0}
-- "for all i, if qi ∈ F, then also q'i ∈ F". The paper asks it of infinite plays, and its automata have no dead ends, so every history goes on to one.
-- Here a play may end where Red cannot move, and it is asked of every history, as in document 01. Readings.antt has the paper's form.
Winning B Direct f q = (h : History) → KeepsTo B f q h → accepts B (red h) ≡ true → accepts B (f h) ≡ true
-- "for all i, if qi ∈ F, then there exists j ≥ i such that q'j ∈ F"
Winning B Delayed f q = (π : Run B) → π.state zero ≡ q → (i : ℕ) → accepts B (π.state i) ≡ true → (j : ℕ) × (i ≤ j) × (accepts B (blue f π j) ≡ true)
-- "In other words, .. if there are infinitely many i such that qi ∈ F, then there are also infinitely many j such that q'j ∈ F".
-- Definition 1 itself says infinitely many j or only finitely many i; Readings.antt has that form.
Winning B Fair f q = (π : Run B) → π.state zero ≡ q → Often (λ i. accepts B (π.state i) ≡ true) → Often (λ j. accepts B (blue f π j) ≡ true)

-- "A state q' .. simulates a state q if there is a winning strategy for Duplicator": here r is q'
pub record Simulates (B : Board) (m : Mode) (q r : ℕ) : Type 0 where
  pub strategy : History → ℕ
  pub legal : Strategy B strategy q r
  pub winning : Winning B m strategy q
