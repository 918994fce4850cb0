-- What holds for every family: where a pair begins, where a round leads, and what a lost position is.
use mathlib.Core.Path.{◌≡◌, refl}
use mathlib.Core.Bool.{Bool, true, false}
use Prim.Native.Nat.{ℕ, ◌<◌}
use Rattle.games.specs.Game.{lost}
use Rattle.automaton.specs.declared.Mode.{Mode}
use Rattle.automaton.specs.declared.Mode.TheVariants.{Ordinary, Direct, Delayed, Fair}
use Rattle.automaton.specs.Board.{Board, accepts}
use Rattle.simulation.specs.Position.{Position, spoiler}
use Rattle.simulation.specs.Rules.{pended, kind_of, owed}
use Rattle.simulation.specs.Won.{Ahead}
use Rattle.simulation.proofs.Inward.{pended_lt, eased_lt}
use Rattle.simulation.proofs.Turns.{eased-live, never_lost, lost_ahead, ahead_lost}
use Rattle.simulation.proofs.Walks.{Good}
use Rattle.laws.specs.Families.{round}

-- a pair begins with the bit that a round to it leaves where nothing was pending before
pub owed-round : (m : Mode) (x y : Bool) → owed m x y ≡ round m x y 0
owed-round Ordinary x y = refl
owed-round Direct x y = refl
owed-round Delayed true true = refl
owed-round Delayed true false = refl
owed-round Delayed false true = refl
owed-round Delayed false false = refl
owed-round Fair x y = refl

-- a round leads to a position that is in range and not idle
pub round-good : (B : Board) (m : Mode) (b q r : ℕ) → Good B m (spoiler b q r) → (q' r' : ℕ) → q' < B.n → r' < B.n
    → Good B m (spoiler (round m (accepts B q') (accepts B r') b) q' r')
round-good B m b q r g q' r' h l =
    let x = accepts B q' in
    let y = accepts B r' in
    ((eased_lt m y (pended m x b) (pended_lt m x b g.0.0), h, l), eased-live m (pended m x b) x y)

-- a lost position has Red ahead of Blue, and in a mode that has one every position with Red ahead is lost
pub lost_means : (B : Board) (m : Mode) (p : Position) → kind_of B m p ≡ lost → Ahead B p × ((u : Position) → Ahead B u → kind_of B m u ≡ lost)
lost_means B Ordinary p e = absurd (never_lost B Ordinary refl p e)
lost_means B Direct p e = (lost_ahead B p e, ahead_lost B)
lost_means B Delayed p e = absurd (never_lost B Delayed refl p e)
lost_means B Fair p e = absurd (never_lost B Fair refl p e)
