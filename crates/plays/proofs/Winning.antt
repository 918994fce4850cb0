-- A won pair is simulated: following the replies of the settled table wins, in each mode.
use mathlib.Core.Path.{◌≡◌, refl, ap, ◌∙◌}
use mathlib.Core.Logic.{◌≢◌, ◌⊎◌, inl, inr}
use mathlib.Core.Bool.{Bool, true, false}
use mathlib.Core.List.{List}
use Prim.Native.Nat.{ℕ, zero, suc, ◌+◌, ◌-◌, ◌≤◌, ◌<◌}
use native.Mathlib.Nat.{le_refl}
use native.Mathlib.Omega.{arith}
use native.Mathlib.Decide.{ℕ_discrete}
use Rattle.games.specs.Lift.{AtRest}
use Rattle.games.proofs.Complete.{apart}
use Rattle.automaton.specs.declared.Mode.{Mode}
use Rattle.automaton.specs.declared.Mode.TheVariants.{Ordinary, Direct, Delayed, Fair}
use Rattle.automaton.specs.Board.{Board, accepts, Formed}
use Rattle.simulation.specs.Position.{Position}
use Rattle.simulation.specs.Rules.{game}
use Rattle.simulation.specs.Won.{WonPair}
use Rattle.simulation.specs.Answers.{settled}
use Rattle.simulation.proofs.Turns.{ahead_lost, counting_at, resetting_at, trigger_counting, resetting_relief, relief_resetting}
use Rattle.simulation.proofs.Relation.{settled-rest, settled-least}
use Rattle.laws.specs.Families.{Begins}
use Rattle.laws.proofs.Entries.{Entries, entries_ranked, won_begins}
use Rattle.plays.specs.Plays.{History, Strategy, Run, up_to, blue, Winning, Simulates}
use Rattle.plays.specs.Readings.{WinningClassically, SimulatesClassically}
use Rattle.plays.proofs.Finite.{within}
use Rattle.plays.proofs.Standing.{standing}
use Rattle.plays.proofs.Runs.{up_to_red, up_to_keeps}
use Rattle.plays.proofs.Pending.{pending, pending_until}
use Rattle.plays.proofs.Following.{following, held, follows, resets_come, resets_come_classically}

-- ---- mode 1: where Red is ahead the replies do not come

module _ (B : Board) (F : Formed B) (t : List ℕ) (rest : AtRest (game B Direct) t) (q r : ℕ) (start : Begins B Direct (Entries B Direct t) q r) where
  direct_wins : Winning B Direct (following B Direct t r) q
  direct_wins h k e = go (accepts B (following B Direct t r h)) refl
    where
      go : (y : Bool) → accepts B (following B Direct t r h) ≡ y → accepts B (following B Direct t r h) ≡ true
      go true d = d
      go false d =
          absurd ((entries_ranked B F Direct t rest).kept (held B F Direct t rest q r start h k) (ahead_lost B (standing B Direct h (following B Direct t r h)) (e, d)))

-- ---- mode 2: every round counts or resets, and where something was pending, a reset means that Blue has accepted since

accepting : (y : Bool) → Dec (y ≡ true)
accepting true = yes refl
accepting false = no (λ e. apart (cc))

module _ (B : Board) (F : Formed B) (t : List ℕ) (rest : AtRest (game B Delayed) t) (q r : ℕ) (start : Begins B Delayed (Entries B Delayed t) q r) where
  delayed_wins : Winning B Delayed (following B Delayed t r) q
  delayed_wins π e i a =
      let (j, l, h) = resets_come B F Delayed t rest q r start π e (λ n. (n, le_refl n, calls n (ℕ_discrete (bit n) 0))) i in
      go j l (resetting_relief B Delayed (at-round j) h) (within (λ k. accepts B (blue f π k) ≡ true) (λ k. accepting (accepts B (blue f π k))) i (suc (j - i)))
    where
      f : History → ℕ
      f = following B Delayed t r

      at-round : ℕ → Position
      at-round n = standing B Delayed (up_to f π n) (f (up_to f π n))

      bit : ℕ → ℕ
      bit n = pending f π n

      calls : (n : ℕ) → Dec (bit n ≡ 0) → (0 < counting_at B Delayed (at-round n)) ⊎ (0 < resetting_at B Delayed (at-round n))
      calls n (yes z) = inr (relief_resetting B Delayed (at-round n) z)
      calls n (no z) =
          let s = held B F Delayed t rest q r start (up_to f π n) (up_to_keeps f π q e n) in
          inl (trigger_counting B Delayed (at-round n) s.good.1 (omega (arith, s.good.0.0)))

      go : (j : ℕ) → i ≤ j → bit j ≡ 0 → ((k : ℕ) × (i ≤ k) × (accepts B (blue f π k) ≡ true)) ⊎ ((k : ℕ) → i ≤ k → k < i + suc (j - i) → accepts B (blue f π k) ≢ true)
          → (k : ℕ) × (i ≤ k) × (accepts B (blue f π k) ≡ true)
      go j l z (inl found) = found
      go j l z (inr none) = absurd (omega (arith, z, pending_until f π i j l a (λ k x y. none k x (omega arith))))

-- ---- mode 3: a round in which Red accepts counts or resets, and where a round resets Blue accepts

module _ (B : Board) (F : Formed B) (t : List ℕ) (rest : AtRest (game B Fair) t) (q r : ℕ) (start : Begins B Fair (Entries B Fair t) q r) (π : Run B) (e : π.state zero ≡ q) where
  abbrev round_of : ℕ → Position
  round_of i = let h = up_to (following B Fair t r) π i in standing B Fair h (following B Fair t r h)

  fair_calls : (i : ℕ) → accepts B (π.state i) ≡ true → (0 < counting_at B Fair (round_of i)) ⊎ (0 < resetting_at B Fair (round_of i))
  fair_calls i a = go (accepts B (blue (following B Fair t r) π i)) refl
    where
      go : (y : Bool) → accepts B (blue (following B Fair t r) π i) ≡ y → (0 < counting_at B Fair (round_of i)) ⊎ (0 < resetting_at B Fair (round_of i))
      go true d = inr (relief_resetting B Fair (round_of i) d)
      go false d =
          let s = held B F Fair t rest q r start (up_to (following B Fair t r) π i) (up_to_keeps (following B Fair t r) π q e i) in
          inl (trigger_counting B Fair (round_of i) s.good.1 (ap (accepts B) (up_to_red (following B Fair t r) π i) ∙ a, d))

module _ (B : Board) (F : Formed B) (t : List ℕ) (rest : AtRest (game B Fair) t) (q r : ℕ) (start : Begins B Fair (Entries B Fair t) q r) where
  fair_wins : Winning B Fair (following B Fair t r) q
  fair_wins π e often n =
      let (j, l, h) = resets_come B F Fair t rest q r start π e (λ k. let (i, b, a) = often k in (i, b, fair_calls B F t rest q r start π e i a)) n in
      (j, l, resetting_relief B Fair (round_of B F t rest q r start π e j) h)

  fair_wins_classically : WinningClassically B Fair (following B Fair t r) q
  fair_wins_classically π e often n none =
      resets_come_classically B F Fair t rest q r start π e (λ k no_call. often k (λ i b a. no_call i b (fair_calls B F t rest q r start π e i a))) n
      (λ j l h. none j l (resetting_relief B Fair (round_of B F t rest q r start π e j) h))

-- ---- every mode

module _ (B : Board) (F : Formed B) where
  following_wins : (m : Mode) (t : List ℕ) → AtRest (game B m) t → (q r : ℕ) → Begins B m (Entries B m t) q r
      → Winning B m (following B m t r) q × WinningClassically B m (following B m t r) q
  following_wins Ordinary t rest q r start = (tt, tt)
  following_wins Direct t rest q r start = let w = direct_wins B F t rest q r start in (w, w)
  following_wins Delayed t rest q r start = let w = delayed_wins B F t rest q r start in (w, λ π e i a none. let (j, l, b) = w π e i a in none j l b)
  following_wins Fair t rest q r start = (fair_wins B F t rest q r start, fair_wins_classically B F t rest q r start)

  module _ (m : Mode) (q r : ℕ) (x : q < B.n) (y : r < B.n) (w : WonPair B m q r) where
    abbrev table : List ℕ
    table = (settled B m).table

    start : Begins B m (Entries B m table) q r
    start = won_begins B F m table (settled-least B m) q r x y w

    legal : Strategy B (following B m table r) q r
    legal = follows B F m table (settled-rest B m) q r start

    wins : Winning B m (following B m table r) q × WinningClassically B m (following B m table r) q
    wins = following_wins m table (settled-rest B m) q r start

    pub won_simulates : Simulates B m q r
    won_simulates = record { strategy = following B m table r; legal = legal; winning = wins.0 }

    pub won_simulates_classically : SimulatesClassically B m q r
    won_simulates_classically = record { strategy = following B m table r; legal = legal; winning = wins.1 }
