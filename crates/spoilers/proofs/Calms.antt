-- A half that pushes or pulls: how it begins, and that every position has what it asks for where each of its steps is heeded or cannot raise it.
use Rattle.std.proofs.Common.{◌⊎◌, inl, inr, List, ℕ, ◌≤◌, ◌<◌, le_trans, arith}
use mathlib.Core.List.{Memᴰ}
use Rattle.games.specs.Game.{asked, at}
use Rattle.games.specs.Lift.{Capped}
use Rattle.games.proofs.Rule.{rule-over}
use Rattle.automaton.specs.declared.Mode.{Mode}
use Rattle.automaton.specs.Board.{Board, accepts, Formed}
use Rattle.simulation.specs.Position.{layers, pair}
use Rattle.simulation.specs.Rules.{pended, turn, ceiling, game}
use Rattle.simulation.specs.Moves.{Moves}
use Rattle.arena.specs.declared.game.Game.{Game}
use Rattle.arena.specs.Game.{board, Playable}
use Rattle.halves.specs.Half.{ruled, challenged, AllCalm}
use Rattle.halves.specs.Rising.{Rising, Roomy, Blank, Marked, Pushed, rising}
use Rattle.halves.proofs.Steps.{turn-not-low, spoiler-kind, spoiler_stepped}
use Rattle.spoilers.specs.Work.{Working}
use Rattle.spoilers.specs.Front.{Layered}
use Rattle.spoilers.specs.Floor.{AllFloored}
use Rattle.spoilers.proofs.Whole.{raising-start}

pub working_start : (g : Game) (t ri ro ol : List ℕ) → Playable g t → Roomy (board g) g.arena.mode (rising t ri ro ol)
    → Capped (game (board g) g.arena.mode) t → ((b : ℕ) → b < layers g.arena.mode → AllFloored (board g) g.arena.mode t b) → Blank (board g) g.arena.mode ri
    → Working g (rising t ri ro ol)
working_start g t ri ro ol ready roomy capped floor blank = record {
  raising = raising-start g t ri ro ol ready roomy blank;
  capped = λ v h. capped v;
  floor = λ b q r x y z. floor b x r z q y;
}

-- a position that has what it asks for with High 0 and by each of its steps has all that it asks for
pub steps_covered : (B : Board) (m : Mode) → Formed B → (t u : List ℕ) (b q r : ℕ) → b < layers m → q < B.n → r < B.n → ruled B m b q r 0 ≤ at u (pair B b q r)
    → ((a x : ℕ) → Moves B q a x → ruled B m b q r (at t (challenged B m b r x a)) ≤ at u (pair B b q r)) → asked (game B m) (at t) (pair B b q r) ≤ at u (pair B b q r)
steps_covered B m F t u b q r hb hq hr floor step =
    rw (spoiler-kind B m F b q r hb hq hr)
    (rule-over (turn m b (accepts B q) (accepts B r)) (turn-not-low m b (accepts B q) (accepts B r)) (ceiling B m) (at t) _ (at u (pair B b q r)) floor each)
  where
    each : (w : ℕ) → Memᴰ w ((game B m).next (pair B b q r)) → ruled B m b q r (at t w) ≤ at u (pair B b q r)
    each w i =
        let (a, (x, (move, e))) = spoiler_stepped B m F b q r hb hq hr w i in
        rw e (step a x move)

-- ---- a half that pushes what is marked

module _ (B : Board) (m : Mode) (t grown columns : List ℕ) (calm : AllCalm B m t grown columns) where
  pub calm-floor : (b : ℕ) → b < layers m → AllFloored B m t b
  calm-floor b hb r hr q hq = (calm b q r hb hq hr).floor

module _ (B : Board) (m : Mode) (F : Formed B) {s u : Rising} {c : ℕ} (grown columns : List ℕ) (calm : AllCalm B m s.table grown columns) (pushed : Pushed B m s u c)
    (heeded : (b : ℕ) → b < layers m → Layered B m grown columns u.table b) where
  -- every position has what it asks for by each of its steps
  step_covered : (b q r : ℕ) → b < layers m → q < B.n → r < B.n → (a x : ℕ) → Moves B q a x
      → ruled B m b q r (at s.table (challenged B m b r x a)) ≤ at u.table (pair B b q r)
  step_covered b q r hb hq hr a x move = go ((calm b q r hb hq hr).step a x move)
    where
      go : Marked B grown columns (pended m (accepts B x) b) x r a ⊎ (ruled B m b q r (at s.table (challenged B m b r x a)) ≤ at s.table (pair B b q r))
          → ruled B m b q r (at s.table (challenged B m b r x a)) ≤ at u.table (pair B b q r)
      go (inl i) = rw (pushed.others (challenged B m b r x a) (omega arith)) at (heeded b hb r a x q hr i move)
      go (inr l) = le_trans l (pushed.grown (pair B b q r))

  -- and so all that it asks for
  pub calm_covered : (b q r : ℕ) → b < layers m → q < B.n → r < B.n → asked (game B m) (at s.table) (pair B b q r) ≤ at u.table (pair B b q r)
  calm_covered b q r hb hq hr =
      steps_covered B m F s.table u.table b q r hb hq hr (le_trans (calm b q r hb hq hr).floor (pushed.grown (pair B b q r))) (step_covered b q r hb hq hr)
