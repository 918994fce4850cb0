-- A pair that is simulated by a strategy with memory is won by a choice without.
use mathlib.Core.Path.{◌≡◌, refl, sym, ap, ◌∙◌, subst}
use mathlib.Core.Logic.{◌≢◌}
use mathlib.Core.List.Memᴰ
use mathlib.Core.List.{Memᴰ}
use Prim.Native.Nat.{ℕ, ◌<◌}
use native.Mathlib.Omega.{arith}
use Rattle.games.specs.Game.{Kind, low, high, counting, resetting, idle, lost}
use Rattle.games.specs.Play.{is_counting, is_resetting, Won}
use Rattle.games.proofs.Complete.{apart}
use Rattle.automaton.specs.declared.Mode.{Mode}
use Rattle.automaton.specs.declared.Mode.TheVariants.{Ordinary, Direct, Delayed, Fair}
use Rattle.automaton.specs.Board.{Board, accepts, Formed}
use Rattle.simulation.specs.Moves.{Arrow, arrows}
use Rattle.simulation.specs.Position.{Position, spoiler, number, Fits}
use Rattle.simulation.specs.Rules.{eased, challenge, reply, steps, kind_of, game}
use Rattle.simulation.specs.Won.{WonPair}
use Rattle.simulation.proofs.Moves.{targets-moves, arrows-moves}
use Rattle.simulation.proofs.Position.{number_lt}
use Rattle.simulation.proofs.Inward.{steps-fit, inward}
use Rattle.simulation.proofs.Counting.{counting_below}
use Rattle.simulation.proofs.Turns.{is_low, turn_low, counting_trigger, relief_resetting, never_lost, lost_ahead}
use Rattle.simulation.proofs.Walks.{Good}
use Rattle.simulation.proofs.Same.{next-is, kind-is, won_same}
use Rattle.laws.proofs.Families.{owed-round}
use Rattle.plays.specs.Plays.{History, first, round, red, KeepsTo, Strategy, Simulates}
use Rattle.plays.proofs.Memory.{Memory, memory_won}
use Rattle.plays.proofs.Standing.{owing, standing, standing_good, Onward}
use Rattle.plays.proofs.Runs.{played}
use Rattle.plays.proofs.Unrelieved.{Unbeaten, winning_unbeaten, relieved}

resetting_is : (k : Kind) → 0 < is_resetting k → k ≡ resetting
resetting_is low h = absurd (omega arith)
resetting_is high h = absurd (omega arith)
resetting_is counting h = absurd (omega arith)
resetting_is resetting h = refl
resetting_is idle h = absurd (omega arith)
resetting_is lost h = absurd (omega arith)

-- such a strategy comes to no lost position
unlost : (B : Board) (m : Mode) (f : History → ℕ) (q : ℕ) → Unbeaten B m f q → (h : History) → KeepsTo B f q h → kind_of B m (standing B m h (f h)) ≢ lost
unlost B Ordinary f q w h k e = never_lost B Ordinary refl (standing B Ordinary h (f h)) e
unlost B Direct f q w h k e = let (x, y) = lost_ahead B (standing B Direct h (f h)) e in apart (cc (w h k x))
unlost B Delayed f q w h k e = never_lost B Delayed refl (standing B Delayed h (f h)) e
unlost B Fair f q w h k e = never_lost B Fair refl (standing B Fair h (f h)) e

module _ (B : Board) (F : Formed B) (m : Mode) (q r : ℕ) (x : q < B.n) (y : r < B.n) (f : History → ℕ) (S : Strategy B f q r) (W : Unbeaten B m f q) where
  -- its memory: the histories that follow it
  abbrev State : Type 0
  State = (h : History) × KeepsTo B f q h

  abbrev stands : State → Position
  stands s = standing B m s.0 (f s.0)

  abbrev place : State → ℕ
  place s = number B m (stands s)

  abbrev Goes : State → State → Type 0
  Goes s t = Onward B f s.0 t.0

  good : (s : State) → Good B m (stands s)
  good s = standing_good B F f q r S x y m s.0 s.1

  kind : (s : State) → (game B m).kind (place s) ≡ kind_of B m (stands s)
  kind s = kind-is B m (stands s) (good s).0

  -- Red's move, and the strategy's answer to it
  module _ (s : State) (o : Arrow) (l : Memᴰ o (arrows B (red s.0))) where
    abbrev asked : Position
    asked = challenge B m (eased m (accepts B (f s.0)) (owing B m s.0)) (f s.0) o

    after : State
    after = (round s.0 (f s.0) o.by o.goal, (s.1, refl, (arrows-moves B (red s.0) o).0 l))

    asked_fits : Fits B m asked
    asked_fits = steps-fit B F m (stands s) (good s).0 (Memᴰ.map (challenge B m (eased m (accepts B (f s.0)) (owing B m s.0)) (f s.0)) l)

    after_next : Memᴰ (place after) ((game B m).next (number B m asked))
    unfolding after
    after_next =
        subst (Memᴰ (place after)) (sym (next-is B m asked asked_fits))
        (Memᴰ.map (number B m) (Memᴰ.map (reply B m (owing B m after.0) o.goal)
        ((targets-moves B (f s.0) o.by (f after.0)).1 (S.answers s.0 (f s.0) o.by o.goal after.1))))

    after-goes : Goes s after
    unfolding after
    after-goes = (o.by, o.goal, (arrows-moves B (red s.0) o).0 l, refl)

  answered : (s : State) (w : ℕ) → Memᴰ w ((game B m).next (place s))
      → ((game B m).kind w ≡ low) × (t : State) × Memᴰ (place t) ((game B m).next w) × Goes s t
  answered s w i =
      let (p, j, e) = Memᴰ.of_map (number B m) (steps B m (stands s)) (subst (Memᴰ w) (next-is B m (stands s) (good s).0) i) in
      let (o, l, d) = Memᴰ.of_map (challenge B m (eased m (accepts B (f s.0)) (owing B m s.0)) (f s.0)) (arrows B (red s.0)) j in
      let here : number B m (asked s o l) ≡ w = ap (number B m) d ∙ e in (
        subst (λ (z : ℕ). (game B m).kind z ≡ low) here (kind-is B m (asked s o l) (asked_fits s o l)),
        after s o l,
        subst (λ (z : ℕ). Memᴰ (place (after s o l)) ((game B m).next z)) here (after_next s o l),
        after-goes s o l,
      )

  memory : Memory (game B m) State place Goes
  memory = record {
    inside = λ s. number_lt B m (stands s) (good s).0;
    spoilers = λ s e. omega (arith, ap is_low (sym (kind s) ∙ e), turn_low m (eased m (accepts B (f s.0)) (owing B m s.0)) (accepts B (red s.0)) (accepts B (f s.0)));
    kept = λ s e. unlost B m f q W s.0 s.1 (sym (kind s) ∙ e);
    answered = answered;
    fair = λ play o never often.
        relieved B f q (λ i. (play i).0) (played B f q (play 0).0 (play 0).1 (λ i. (play i).0) o refl) m W
        (λ i t. never i (kind (play i) ∙ resetting_is (kind_of B m (stands (play i))) (relief_resetting B m (stands (play i)) t)))
        (λ n. let (i, l, e) = often n in (i, l, counting_trigger B m (stands (play i)) (omega (arith, ap is_counting (sym (kind (play i)) ∙ e)))));
  }

  pub unbeaten_won : WonPair B m q r
  unbeaten_won =
      (won_same B F m q r x y).1
      (subst (λ (p : Position). Won (game B m) (number B m p))
      (ap (standing B m (first q)) S.begins ∙ ap (λ (b : ℕ). spoiler b q r) (sym (owed-round m (accepts B q) (accepts B r))))
      (memory_won (game B m) (inward B F m) (counting_below B m) place Goes memory (first q, refl)))

pub simulates_won : (B : Board) → Formed B → (m : Mode) (q r : ℕ) → q < B.n → r < B.n → Simulates B m q r → WonPair B m q r
simulates_won B F m q r x y s = unbeaten_won B F m q r x y s.strategy s.legal (winning_unbeaten B m s.strategy q s.winning)
