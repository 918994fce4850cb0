-- The other readings of the paper's words come to the same.
use mathlib.Core.Path.{◌≡◌, refl, sym, ap, ◌∙◌}
use mathlib.Core.Logic.{◌↔◌}
use Prim.Native.Nat.{ℕ, zero, suc, ◌+◌, ◌<◌}
use Rattle.automaton.specs.declared.Mode.{Mode}
use Rattle.automaton.specs.declared.Mode.TheVariants.{Direct, Fair}
use Rattle.automaton.specs.Board.{Board, accepts, Formed}
use Rattle.simulation.specs.Moves.{Moves}
use Rattle.simulation.specs.Won.{WonPair}
use Rattle.plays.specs.Plays.{History, round, red, KeepsTo, Strategy, Run, up_to, blue, Winning}
use Rattle.plays.specs.Readings.{Endless, DirectPlays, WinningClassically, SimulatesClassically, FairPlays}
use Rattle.plays.proofs.Standing.{Onward, red_in}
use Rattle.plays.proofs.Runs.{up_to_red, up_to_keeps, Played, played, played_red}
use Rattle.plays.proofs.Unrelieved.{classically_unbeaten}
use Rattle.plays.proofs.Forgotten.{unbeaten_won}
use Rattle.plays.proofs.Winning.{won_simulates_classically}

-- ---- "Observe that π' is well-defined": Blue makes a run of the same word

pub blue-run : {B : Board} {f : History → ℕ} {q r : ℕ} → Strategy B f q r → (π : Run B) → π.state zero ≡ q → (i : ℕ) → Moves B (blue f π i) (π.letter i) (blue f π (suc i))
blue-run {f = f} {q = q} S π e i = S.answers (up_to f π i) (blue f π i) (π.letter i) (π.state (suc i)) (up_to_keeps f π q e (suc i))

-- ---- mode 1 on an automaton without dead ends: the infinite plays decide

module _ (B : Board) (F : Formed B) (endless : Endless B) (f : History → ℕ) (q r : ℕ) (S : Strategy B f q r) (x : q < B.n) (y : r < B.n) where
  -- Red goes on for ever from a history
  goes_on : (h : History) → KeepsTo B f q h → ℕ → (h' : History) × KeepsTo B f q h'
  goes_on h k zero = (h, k)
  goes_on h k (suc i) =
      let (h', k') = goes_on h k i in
      let (a, p, move) = endless (red h') (red_in B F f q r S x y h' k') in
      (round h' (f h') a p, (k', refl, move))

  goes-onward : (h : History) (k : KeepsTo B f q h) (i : ℕ) → Onward B f (goes_on h k i).0 (goes_on h k (suc i)).0
  unfolding goes_on
  goes-onward h k i =
      let s = goes_on h k i in
      let (a, p, move) = endless (red s.0) (red_in B F f q r S x y s.0 s.1) in
      (a, p, move, refl)

  pub direct_endless : Winning B Direct f q ↔ DirectPlays B f q
  unfolding goes_on
  direct_endless = (there, back)
    where
      there : Winning B Direct f q → DirectPlays B f q
      there w π e i a = w (up_to f π i) (up_to_keeps f π q e i) (ap (accepts B) (up_to_red f π i) ∙ a)

      back : DirectPlays B f q → Winning B Direct f q
      back w h k a =
          let p : Played B f q (λ i. (goes_on h k i).0) = played B f q h k (λ i. (goes_on h k i).0) (goes-onward h k) refl in
          ap (λ (s : History). accepts B (f s)) (sym (p.same zero)) ∙ w p.run p.starts (p.after + zero) (ap (accepts B) (played_red p zero) ∙ a)

-- ---- mode 3: "infinitely many j .. or only finitely many i", as in classical logic

pub fair-either : (B : Board) (f : History → ℕ) (q : ℕ) → WinningClassically B Fair f q ↔ FairPlays B f q
fair-either B f q = (
  λ w π e none. none.0 (w π e (λ n never. none.1 (n, never))),
  λ w π e often n never. w π e (λ all. all n never, λ few. often few.0 few.1),
)

-- ---- "there is" as in classical logic

pub won_is_simulated_classically : (B : Board) → Formed B → (m : Mode) (q r : ℕ) → q < B.n → r < B.n → WonPair B m q r ↔ SimulatesClassically B m q r
won_is_simulated_classically B F m q r x y = (
  won_simulates_classically B F m q r x y,
  λ s. unbeaten_won B F m q r x y s.strategy s.legal (classically_unbeaten B m s.strategy q s.winning),
)
