-- What Spoiler's positions ask for with High 0: by the mode and by which states accept, and that over a table of zeros it is all that they ask for.
use Rattle.std.proofs.Common.{◌≡◌, refl, sym, ◌⊎◌, inl, inr, Bool, true, false, List, ℕ, zero, suc, ◌≤◌, ◌<◌, le_refl, arith}
use Rattle.games.specs.Game.{asked, at, high, counting, resetting, lost}
use Rattle.games.specs.Half.{rule}
use Rattle.games.proofs.Asked.{full_miss}
use Rattle.games.proofs.Rule.{rule-floor, rule-over}
use Rattle.words.specs.Word.{dig, In, Below}
use Rattle.words.proofs.Digits.{dig-zero}
use Rattle.words.proofs.Sets.{empty, in_or-out}
use Rattle.automaton.specs.declared.Mode.{Mode}
use Rattle.automaton.specs.declared.Mode.TheVariants.{Ordinary, Direct, Delayed, Fair}
use Rattle.automaton.specs.Board.{Board, accepts, Formed}
use Rattle.simulation.specs.Position.{layers, pair}
use Rattle.simulation.specs.Rules.{turn, ceiling, game}
use Rattle.halves.specs.Drawn.{Accepting}
use Rattle.halves.specs.Half.{ruled}
use Rattle.halves.proofs.Steps.{turn-not-low, spoiler-kind}
use Rattle.spoilers.specs.Work.{given, Hits, Holds}
use Rattle.spoilers.specs.Floor.{FloorOf, Floored}
use Rattle.spoilers.proofs.Members.{below_in}
use Rattle.spoilers.proofs.Asks.{given_out, accepting_in, accepting-out}

-- ---- by the mode

pub top_one : (B : Board) (m : Mode) → 1 ≤ ceiling B m
top_one B Ordinary = omega arith
top_one B Direct = omega arith
top_one B Delayed = omega arith
top_one B Fair = omega arith

module _ (T : ℕ) (pos : 1 ≤ T) where
  high_zero : rule high T 0 ≡ 0
  unfolding rule
  high_zero = refl

  reset_zero : rule resetting T 0 ≡ 0
  unfolding rule
  reset_zero = full_miss T 0 pos

  count-zero : rule counting T 0 ≡ 1
  unfolding rule
  count-zero = omega arith

  lost_zero : rule lost T 0 ≡ T
  unfolding rule
  lost_zero = refl

  accepting-zero : (m : Mode) (b : ℕ) (x : Bool) → rule (turn m b x true) T 0 ≡ 0
  unfolding rule
  accepting-zero Ordinary b x = refl
  accepting-zero Direct b true = refl
  accepting-zero Direct b false = refl
  accepting-zero Delayed zero x = full_miss T 0 pos
  accepting-zero Delayed (suc zero) x = refl
  accepting-zero Delayed (suc (suc b)) x = refl
  accepting-zero Fair b x = full_miss T 0 pos

module _ (B : Board) (m : Mode) (b r : ℕ) where
  -- no position asks for anything
  floor-none : ((q : ℕ) → ruled B m b q r 0 ≡ 0) → FloorOf B m b r 0 0
  floor-none each = record { states = λ q i. absurd (empty q i); hits = λ q i. absurd (empty q i); others = λ q h o. each q }

  pub floor-accepting : accepts B r ≡ true → FloorOf B m b r 0 0
  floor-accepting blue = floor-none (λ q. rw blue (accepting-zero (ceiling B m) (top_one B m) m b (accepts B q)))

  pub floor_ordinary : m ≡ Ordinary → FloorOf B m b r 0 0
  floor_ordinary e = floor-none (λ q. rw e (high_zero 1 (le_refl 1)))

  pub floor_reset : m ≡ Delayed → b ≡ 0 → FloorOf B m b r 0 0
  floor_reset e bit = floor-none (λ q. rw (e, bit) (reset_zero (ceiling B Delayed) (top_one B Delayed)))

  pub floor-delayed : (all : ℕ) → Below B.n all → m ≡ Delayed → b ≡ 1 → accepts B r ≡ false → FloorOf B m b r all 1
  floor-delayed all each e bit blue = record {
    states = below_in each;
    hits = λ q i. rw (e, bit, blue) (count-zero (ceiling B Delayed) (top_one B Delayed));
    others = λ q h o. absurd (omega (arith, each.each q h));
  }

  module _ (acc : ℕ) (sure : Accepting B acc) (blue : accepts B r ≡ false) where
    pub floor-direct : (top : ℕ) → top ≡ ceiling B m → m ≡ Direct → FloorOf B m b r acc top
    floor-direct top t e = record {
      states = sure.states;
      hits = λ q i. rw (t, e, blue, accepting_in B acc sure q (sure.states q i) i) (lost_zero 1 (le_refl 1));
      others = λ q h o. rw (e, blue, accepting-out B acc sure q h o) (high_zero 1 (le_refl 1));
    }

    pub floor-fair : m ≡ Fair → FloorOf B m b r acc 1
    floor-fair e = record {
      states = sure.states;
      hits = λ q i. rw (e, blue, accepting_in B acc sure q (sure.states q i) i) (count-zero (ceiling B Fair) (top_one B Fair));
      others = λ q h o. rw (e, blue, accepting-out B acc sure q h o) (high_zero (ceiling B Fair) (top_one B Fair));
    }

-- ---- raising a column to it

module _ (B : Board) (m : Mode) (b r : ℕ) {hit value : ℕ} (floor : FloorOf B m b r hit value) where
  -- those hit ask for it, whatever the table
  pub floor-hits : Formed B → b < layers m → r < B.n → (t : List ℕ) → Hits B m t b r hit (given 0 value value)
  floor-hits F hb hr t q i =
      let hq = floor.states q i in (
        hq,
        rw (given_out 0 value value q (dig-zero q), sym (floor.hits q i), spoiler-kind B m F b q r hb hq hr)
            (rule-floor (turn m b (accepts B q) (accepts B r)) (turn-not-low m b (accepts B q) (accepts B r)) (ceiling B m) (at t) _),
      )

  -- and the others ask for nothing
  pub floor-done : (t : List ℕ) → Holds B t b r hit (given 0 value value) → Floored B m b t r
  floor-done t holds q h = go (in_or-out hit q)
    where
      go : In q hit ⊎ (dig hit q ≡ 0) → ruled B m b q r 0 ≤ at t (pair B b q r)
      go (inl i) = rw (floor.hits q i, sym (given_out 0 value value q (dig-zero q))) (holds q i)
      go (inr o) = rw (floor.others q h o) (omega arith)

-- ---- a table of zeros

module _ (B : Board) (m : Mode) (F : Formed B) (t : List ℕ) (zeros : (v : ℕ) → at t v ≡ 0) where
  pub zeros-asked : (b q r x : ℕ) → b < layers m → q < B.n → r < B.n → ruled B m b q r 0 ≤ x → asked (game B m) (at t) (pair B b q r) ≤ x
  zeros-asked b q r x hb hq hr least =
      rw (spoiler-kind B m F b q r hb hq hr)
      (rule-over (turn m b (accepts B q) (accepts B r)) (turn-not-low m b (accepts B q) (accepts B r)) (ceiling B m) (at t) _ x least (λ w i. rw (zeros w) least))
