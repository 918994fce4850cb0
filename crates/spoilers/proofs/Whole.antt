-- The whole of Spoiler's half: how it begins, and that parts after which every position has what it asks for make it.
use Rattle.std.proofs.Common.{◌≡◌, refl, subst, ◌⊎◌, inl, inr, List, ℕ, ◌≤◌, ◌<◌, max, arith, length}
use Rattle.games.specs.Game.{asked, at}
use Rattle.games.specs.Half.{Halved}
use Rattle.games.proofs.Half.{half_from}
use Rattle.games.proofs.Rose.{rose-none}
use Rattle.automaton.specs.declared.Mode.{Mode}
use Rattle.automaton.specs.Board.{Board, Formed}
use Rattle.simulation.specs.Position.{layers, pairs, pair}
use Rattle.simulation.specs.Rules.{game}
use Rattle.arena.specs.declared.game.Game.{Game}
use Rattle.arena.specs.Game.{board, Playable}
use Rattle.halves.specs.Rising.{Rising, Roomy, Blank, Spoiling, Pushed, rising}
use Rattle.halves.proofs.Places.{each-spoiler}
use Rattle.spoilers.specs.Work.{Raising}

-- nothing has risen, and nothing is noted
spoiling_start : (B : Board) (m : Mode) (t ri ro ol : List ℕ) → Blank B m ri → Spoiling B m t (rising t ri ro ol) 0
spoiling_start B m t ri ro ol blank = record {
  entries = refl;
  others = λ v h. refl;
  due = λ v h. inl refl;
  noted = λ b q r x y z. inl (blank b q r x y z, refl);
  count = rose-none t (length t);
}

pub raising-start : (g : Game) (t ri ro ol : List ℕ) → Playable g t → Roomy (board g) g.arena.mode (rising t ri ro ol)
    → Blank (board g) g.arena.mode ri → Raising g (rising t ri ro ol)
raising-start g t ri ro ol ready roomy blank = record {
  ready = ready;
  roomy = roomy;
  underway = (t, (0, spoiling_start (board g) g.arena.mode t ri ro ol blank));
}

module _ (B : Board) (m : Mode) (t ri ro ol : List ℕ) (u : Rising) {c : ℕ} (blank : Blank B m ri) (pushed : Pushed B m (rising t ri ro ol) u c) where
  pub all_spoiling : Spoiling B m t u c
  all_spoiling = subst (Spoiling B m t u) (omega arith) (pushed.goes t 0 (spoiling_start B m t ri ro ol blank))

  module _ (F : Formed B) (covered : (b q r : ℕ) → b < layers m → q < B.n → r < B.n → asked (game B m) (at t) (pair B b q r) ≤ at u.table (pair B b q r)) where
    above : (v : ℕ) → v < pairs B m → asked (game B m) (at t) v ≤ at u.table v
    above v h =
        let (b, q, r, hb, hq, hr, e) = each-spoiler B m F v h in
        rw e (covered b q r hb hq hr)

    below : (v : ℕ) → (at u.table v ≡ at t v) ⊎ (at u.table v ≤ asked (game B m) (at t) v) → at u.table v ≤ max (at t v) (asked (game B m) (at t) v)
    below v (inl e) = omega arith
    below v (inr l) = omega arith

    beside : (v : ℕ) → (v < 0) ⊎ (pairs B m ≤ v) → at u.table v ≡ at t v
    beside v (inl l) = absurd (omega arith)
    beside v (inr l) = pushed.others v l

    pub whole : Halved (game B m) 0 (pairs B m) t u.table
    whole = half_from (game B m) 0 (pairs B m) t u.table pushed.entries beside (λ v l h. (pushed.grown v, below v (all_spoiling.due v h), above v h))
