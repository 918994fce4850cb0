-- The kinds of the positions against the words of "won": which positions count, reset, are idle or lost, in each mode.
use mathlib.Core.Path.{◌≡◌, refl, ap}
use mathlib.Core.Bool.{Bool, true, false}
use Prim.Native.Nat.{ℕ, zero, suc, ◌≤◌, ◌<◌}
use native.Mathlib.Omega.{arith}
use Rattle.games.specs.Game.{Kind, low, high, counting, resetting, idle, lost}
use Rattle.games.specs.Play.{is_counting, is_resetting}
use Rattle.automaton.specs.declared.Mode.{Mode}
use Rattle.automaton.specs.declared.Mode.TheVariants.{Ordinary, Direct, Delayed, Fair}
use Rattle.automaton.specs.Board.{Board, accepts}
use Rattle.simulation.specs.Position.{Position, spoiler, duplicator, layers}
use Rattle.simulation.specs.Rules.{eased, turn, kind_of, owed}
use Rattle.simulation.specs.Won.{Pending, Met, Ahead, Answered}

-- ---- kinds by numbers

abbrev pub is_low : Kind → ℕ
is_low low = 1
is_low high = 0
is_low counting = 0
is_low resetting = 0
is_low idle = 0
is_low lost = 0

abbrev pub is_idle : Kind → ℕ
is_idle low = 0
is_idle high = 0
is_idle counting = 0
is_idle resetting = 0
is_idle idle = 1
is_idle lost = 0

abbrev pub is_lost : Kind → ℕ
is_lost low = 0
is_lost high = 0
is_lost counting = 0
is_lost resetting = 0
is_lost idle = 0
is_lost lost = 1

-- Spoiler's positions are not low
pub turn_low : (m : Mode) (b : ℕ) (x y : Bool) → is_low (turn m b x y) ≡ 0
turn_low Ordinary b x y = refl
turn_low Direct b true false = refl
turn_low Direct b true true = refl
turn_low Direct b false y = refl
turn_low Delayed zero x y = refl
turn_low Delayed (suc zero) x true = refl
turn_low Delayed (suc zero) x false = refl
turn_low Delayed (suc (suc b)) x y = refl
turn_low Fair b x true = refl
turn_low Fair b true false = refl
turn_low Fair b false false = refl

-- after Duplicator's move no position is idle
pub eased-live : (m : Mode) (b : ℕ) (x y : Bool) → is_idle (turn m (eased m y b) x y) ≡ 0
eased-live Ordinary b x y = refl
eased-live Direct b true false = refl
eased-live Direct b true true = refl
eased-live Direct b false y = refl
eased-live Delayed b x true = refl
eased-live Delayed zero x false = refl
eased-live Delayed (suc zero) x false = refl
eased-live Delayed (suc (suc b)) x false = refl
eased-live Fair b x true = refl
eased-live Fair b true false = refl
eased-live Fair b false false = refl

-- nor is a beginning
pub owed-live : (m : Mode) (x y : Bool) → is_idle (turn m (owed m x y) x y) ≡ 0
owed-live Ordinary x y = refl
owed-live Direct true false = refl
owed-live Direct true true = refl
owed-live Direct false y = refl
owed-live Delayed true false = refl
owed-live Delayed true true = refl
owed-live Delayed false y = refl
owed-live Fair x true = refl
owed-live Fair true false = refl
owed-live Fair false false = refl

pub owed_lt : (m : Mode) (x y : Bool) → owed m x y < layers m
owed_lt Ordinary x y = omega arith
owed_lt Direct x y = omega arith
owed_lt Delayed true false = omega arith
owed_lt Delayed true true = omega arith
owed_lt Delayed false y = omega arith
owed_lt Fair x y = omega arith

-- ---- what a stretch must not meet without relief, by the mode

abbrev pub Trigger : Board → Mode → Position → Type 0
Trigger B Ordinary = λ p. ⊥
Trigger B Direct = λ p. ⊥
Trigger B Delayed = Pending
Trigger B Fair = Ahead B

abbrev pub Relief : Board → Mode → Position → Type 0
Relief B Ordinary = λ p. ⊥
Relief B Direct = λ p. ⊥
Relief B Delayed = Met
Relief B Fair = Answered B

-- a position that is not idle
abbrev pub Live : Board → Mode → Position → Type 0
Live B m p = is_idle (kind_of B m p) ≡ 0

abbrev pub counting_at : Board → Mode → Position → ℕ
counting_at B m p = is_counting (kind_of B m p)

abbrev pub resetting_at : Board → Mode → Position → ℕ
resetting_at B m p = is_resetting (kind_of B m p)

module _ (B : Board) where
  pub counting_trigger : (m : Mode) (p : Position) → 0 < counting_at B m p → Trigger B m p
  counting_trigger m (duplicator b q r a) h = absurd (omega arith)
  counting_trigger m (spoiler b q r) h = go m b (accepts B q) (accepts B r) refl refl h
    where
      go : (m : Mode) (b : ℕ) (x y : Bool) → accepts B q ≡ x → accepts B r ≡ y → 0 < is_counting (turn m b x y) → Trigger B m (spoiler b q r)
      go Ordinary b x y e d h = omega arith
      go Direct b true false e d h = omega arith
      go Direct b true true e d h = omega arith
      go Direct b false y e d h = omega arith
      go Delayed zero x y e d h = absurd (omega arith)
      go Delayed (suc zero) x true e d h = absurd (omega arith)
      go Delayed (suc zero) x false e d h = refl
      go Delayed (suc (suc b)) x y e d h = absurd (omega arith)
      go Fair b x true e d h = absurd (omega arith)
      go Fair b true false e d h = (e, d)
      go Fair b false false e d h = absurd (omega arith)

  pub trigger_counting : (m : Mode) (p : Position) → Live B m p → Trigger B m p → 0 < counting_at B m p
  trigger_counting Ordinary p l t = absurd t
  trigger_counting Direct p l t = absurd t
  trigger_counting Delayed (spoiler b q r) l t = go b (accepts B q) (accepts B r) l t
    where
      go : (b : ℕ) (x y : Bool) → is_idle (turn Delayed b x y) ≡ 0 → b ≡ 1 → 0 < is_counting (turn Delayed b x y)
      go zero x y l t = absurd (omega arith)
      go (suc zero) x true l t = absurd (omega arith)
      go (suc zero) x false l t = omega arith
      go (suc (suc b)) x y l t = absurd (omega arith)
  trigger_counting Delayed (duplicator b q r a) l t = absurd t
  trigger_counting Fair (spoiler b q r) l t = rw (t.0, t.1) (omega arith)
  trigger_counting Fair (duplicator b q r a) l t = absurd t

  pub resetting_relief : (m : Mode) (p : Position) → 0 < resetting_at B m p → Relief B m p
  resetting_relief m (duplicator b q r a) h = absurd (omega arith)
  resetting_relief m (spoiler b q r) h = go m b (accepts B q) (accepts B r) refl h
    where
      go : (m : Mode) (b : ℕ) (x y : Bool) → accepts B r ≡ y → 0 < is_resetting (turn m b x y) → Relief B m (spoiler b q r)
      go Ordinary b x y d h = omega arith
      go Direct b true false d h = omega arith
      go Direct b true true d h = omega arith
      go Direct b false y d h = omega arith
      go Delayed zero x y d h = refl
      go Delayed (suc zero) x true d h = absurd (omega arith)
      go Delayed (suc zero) x false d h = absurd (omega arith)
      go Delayed (suc (suc b)) x y d h = absurd (omega arith)
      go Fair b x true d h = d
      go Fair b true false d h = absurd (omega arith)
      go Fair b false false d h = absurd (omega arith)

  pub relief_resetting : (m : Mode) (p : Position) → Relief B m p → 0 < resetting_at B m p
  relief_resetting Ordinary p t = absurd t
  relief_resetting Direct p t = absurd t
  relief_resetting Delayed (spoiler b q r) t = rw t (omega arith)
  relief_resetting Delayed (duplicator b q r a) t = absurd t
  relief_resetting Fair (spoiler b q r) t = rw t (omega arith)
  relief_resetting Fair (duplicator b q r a) t = absurd t

-- ---- lost positions

-- 1 in mode 1, the only one with lost positions
abbrev losing : Mode → ℕ
losing Ordinary = 0
losing Direct = 1
losing Delayed = 0
losing Fair = 0

turn_lost : (m : Mode) (b : ℕ) (x y : Bool) → is_lost (turn m b x y) ≤ losing m
turn_lost Ordinary b x y = omega arith
turn_lost Direct b true false = omega arith
turn_lost Direct b true true = omega arith
turn_lost Direct b false y = omega arith
turn_lost Delayed zero x y = omega arith
turn_lost Delayed (suc zero) x true = omega arith
turn_lost Delayed (suc zero) x false = omega arith
turn_lost Delayed (suc (suc b)) x y = omega arith
turn_lost Fair b x true = omega arith
turn_lost Fair b true false = omega arith
turn_lost Fair b false false = omega arith

module _ (B : Board) where
  pub never_lost : (m : Mode) → losing m ≡ 0 → (p : Position) → kind_of B m p ≡ lost → ⊥
  never_lost m z (spoiler b q r) e = omega (arith, turn_lost m b (accepts B q) (accepts B r), ap is_lost e)
  never_lost m z (duplicator b q r a) e = let f = ap is_lost e in omega arith

  pub lost_ahead : (p : Position) → kind_of B Direct p ≡ lost → Ahead B p
  lost_ahead (duplicator b q r a) e = let f = ap is_lost e in absurd (omega arith)
  lost_ahead (spoiler b q r) e = go (accepts B q) (accepts B r) refl refl (ap is_lost e)
    where
      go : (x y : Bool) → accepts B q ≡ x → accepts B r ≡ y → is_lost (turn Direct b x y) ≡ 1 → (accepts B q ≡ true) × (accepts B r ≡ false)
      go true false d e h = (d, e)
      go true true d e h = absurd (omega arith)
      go false y d e h = absurd (omega arith)

  pub ahead_lost : (p : Position) → Ahead B p → kind_of B Direct p ≡ lost
  ahead_lost (spoiler b q r) t = rw (t.0, t.1)
  ahead_lost (duplicator b q r a) t = absurd t
