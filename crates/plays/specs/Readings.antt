-- Other readings of the paper's words, where Plays.antt departs from them or a reader may take them otherwise. All come to the same (proofs/Readings.antt).
use Rattle.std.specs.Prelude.{◌≡◌, true, ℕ, zero, ◌≤◌, ◌<◌}
use Rattle.automaton.specs.declared.Mode.{Mode}
use Rattle.automaton.specs.declared.Mode.TheVariants.{Ordinary, Direct, Delayed, Fair}
use Rattle.automaton.specs.Board.{Board, accepts}
use Rattle.simulation.specs.Moves.{Moves}
use Rattle.plays.specs.Plays.{History, Strategy, Run, blue, Winning}

-- ---- mode 1 by infinite plays alone, as Definition 1 has it

-- "the automaton has no dead ends": of the paper's "from each state .. there is a path of length at least 1" to an accepting one, no more is needed
-- than that each state has a move
abbrev pub Endless : Board → Type 0
Endless B = (q : ℕ) → q < B.n → (a r : ℕ) × Moves B q a r

-- "for all i, if qi ∈ F, then also q'i ∈ F"
abbrev pub DirectPlays : Board → (f : History → ℕ) → (q : ℕ) → Type 0
DirectPlays B f q = (π : Run B) → π.state zero ≡ q → (i : ℕ) → accepts B (π.state i) ≡ true → accepts B (blue f π i) ≡ true

-- ---- "there is" as in classical logic: it cannot be that there is none

-- some i from n on has X
abbrev pub Classically : (X : ℕ → Type 0) → (n : ℕ) → Type 0
Classically X n = ¬ ((i : ℕ) → n ≤ i → ¬ X i)

abbrev pub WinningClassically : Board → Mode → (f : History → ℕ) → (q : ℕ) → Type 0
WinningClassically B Ordinary f q = Unit {0}
WinningClassically B Direct f q = Winning B Direct f q
WinningClassically B Delayed f q = (π : Run B) → π.state zero ≡ q → (i : ℕ) → accepts B (π.state i) ≡ true → Classically (λ j. accepts B (blue f π j) ≡ true) i
WinningClassically B Fair f q = (π : Run B) → π.state zero ≡ q
    → ((n : ℕ) → Classically (λ i. accepts B (π.state i) ≡ true) n) → (n : ℕ) → Classically (λ j. accepts B (blue f π j) ≡ true) n

pub record SimulatesClassically (B : Board) (m : Mode) (q r : ℕ) : Type 0 where
  pub strategy : History → ℕ
  pub legal : Strategy B strategy q r
  pub winning : WinningClassically B m strategy q

-- ---- mode 3 as Definition 1 has it

-- "there are only finitely many i such that" X: none from some n on
abbrev pub Finitely : (X : ℕ → Type 0) → Type 0
Finitely X = (n : ℕ) × ((i : ℕ) → n ≤ i → ¬ X i)

-- "there are infinitely many j such that q'j ∈ F or there are only finitely many i such that qi ∈ F": it cannot be that neither holds
abbrev pub FairPlays : Board → (f : History → ℕ) → (q : ℕ) → Type 0
FairPlays B f q = (π : Run B) → π.state zero ≡ q
    → ¬ ((¬ ((n : ℕ) → Classically (λ j. accepts B (blue f π j) ≡ true) n)) × (¬ Finitely (λ i. accepts B (π.state i) ≡ true)))
