-- From sweep to sweep: after a whole sweep Spoiler's positions may be raised by marked entries alone, and after Spoiler's half Duplicator's by noted ones.
use Rattle.std.proofs.Common.{◌≡◌, ap, subst, ◌≢◌, ◌⊎◌, inl, inr, List, ℕ, ◌≤◌, ◌<◌, le_trans, arith}
use mathlib.Core.List.{Memᴰ}
use native.Mathlib.Decide.{dec_le}
use Rattle.games.specs.Game.{Kind, low, ask, asked, lowest, at}
use Rattle.games.specs.Half.{Halved}
use Rattle.games.proofs.Half.{half_rest}
use Rattle.games.proofs.Rule.{rule-floor, rule-under, low-risen}
use Rattle.automaton.specs.declared.Mode.{Mode}
use Rattle.automaton.specs.Board.{Board, accepts, Formed}
use Rattle.simulation.specs.Moves.{Moves}
use Rattle.simulation.specs.Position.{duplicator, pairs, positions, pair, number}
use Rattle.simulation.specs.Rules.{pended, eased, turn, ceiling, game}
use Rattle.simulation.proofs.Moves.{move-within}
use Rattle.simulation.proofs.Inward.{pended_lt, eased_lt}
use Rattle.halves.specs.Half.{ruled, challenged, replied, AllCalm, low_at, Stirred, AllStirred}
use Rattle.halves.specs.Rising.{Rising, Noted, AllNoted, Marked, AllMarked}
use Rattle.halves.proofs.Apart.{spoilers_apart}
use Rattle.halves.proofs.Places.{pair-below, duplicator-within}
use Rattle.halves.proofs.Steps.{turn-not-low, spoiler-kind, spoiler-step, duplicator_asks, duplicator_stepped}

module _ (B : Board) (m : Mode) (F : Formed B) where
  -- ---- Spoiler's positions after a whole sweep

  -- t before the sweep, u after Spoiler's half and w after Duplicator's
  module _ (t u w grown columns : List ℕ) (d : Halved (game B m) 0 (pairs B m) t u) (marked : AllMarked B m u w grown columns)
      (same : (v : ℕ) → v < pairs B m → at w v ≡ at u v) where
    pub calm-again : AllCalm B m w grown columns
    calm-again b q r hb hq hr = record {
      floor = rw stays (le_trans (rule-floor (turn m b (accepts B q) (accepts B r)) not_low (ceiling B m) (at u) next) rest);
      step = λ a x move.
          let (hx, ha, hg) = move-within B F q a x move in
          step a x move (marked (pended m (accepts B x) b) x r a (pended_lt m (accepts B x) b hb) hg hr ha);
    }
      where
        next : List ℕ
        next = (game B m).next (pair B b q r)

        inside : pair B b q r < pairs B m
        inside = pair-below B m F b q r hb hq hr

        stays : at w (pair B b q r) ≡ at u (pair B b q r)
        stays = same (pair B b q r) inside

        not_low : turn m b (accepts B q) (accepts B r) ≢ low
        not_low = turn-not-low m b (accepts B q) (accepts B r)

        rest : ask (turn m b (accepts B q) (accepts B r)) (ceiling B m) (at u) next ≤ at u (pair B b q r)
        rest =
            subst (λ (k : Kind). ask k (ceiling B m) (at u) ((game B m).next (pair B b q r)) ≤ at u (pair B b q r)) (spoiler-kind B m F b q r hb hq hr)
            (half_rest (spoilers_apart B m F) d (pair B b q r) (omega arith) inside)

        step : (a x : ℕ) → Moves B q a x → (at w (challenged B m b r x a) ≡ at u (challenged B m b r x a)) ⊎ Marked B grown columns (pended m (accepts B x) b) x r a
            → Marked B grown columns (pended m (accepts B x) b) x r a ⊎ (ruled B m b q r (at w (challenged B m b r x a)) ≤ at w (pair B b q r))
        step a x move (inl e) =
            inr (rw (e, stays) (le_trans (rule-under (turn m b (accepts B q) (accepts B r)) not_low (ceiling B m) (at u) next (challenged B m b r x a) (spoiler-step B m F b q r hb hq hr a x move)) rest))
        step a x move (inr k) = inl k

  -- ---- Duplicator's positions after Spoiler's half

  -- t before the half, with all of Duplicator's positions at rest
  module _ (t : List ℕ) (s : Rising) (rest : (v : ℕ) → pairs B m ≤ v → v < positions B m → asked (game B m) (at t) v ≤ at t v)
      (d : Halved (game B m) 0 (pairs B m) t s.table) (noted : AllNoted B m t s) where
    pub stirred-by : AllStirred B m s
    stirred-by b q r a hb hq hr ha = go (dec_le (low_at B m s.table b q r a) (at s.table v))
      where
        v : ℕ
        v = number B m (duplicator b q r a)

        next : List ℕ
        next = (game B m).next v

        within : (pairs B m ≤ v) × (v < positions B m)
        within = duplicator-within B m F b q r a hb hq hr ha

        stays : at s.table v ≡ at t v
        stays = d.outside v (inr within.0)

        lows : (u : List ℕ) → low_at B m u b q r a ≡ lowest (ceiling B m) (at u) next
        lows u = duplicator_asks B m F b q r a hb hq hr ha (at u)

        risen : (x : ℕ) → Moves B r a x → at t (replied B m b q x) ≤ at t v → at t (replied B m b q x) < at s.table (replied B m b q x)
            → at s.table v < low_at B m s.table b q r a → Noted B t s (eased m (accepts B x) b) q x → Stirred B m s b q r a
        risen x move le up more (inl (none, same)) = absurd (omega arith)
        risen x move le up more (inr (i, j, k, l)) = inr (x, move, i, j, omega (arith, stays))

        found : at s.table v < low_at B m s.table b q r a
            → (lowest (ceiling B m) (at s.table) next ≤ at t v) ⊎ ((w : ℕ) × Memᴰ w next × (at t w ≤ at t v) × (at t w < at s.table w)) → Stirred B m s b q r a
        found more (inl l) = absurd (omega (arith, lows s.table, stays))
        found more (inr (w, i, le, up)) =
            let (x, (move, e)) = duplicator_stepped B m F b q r a hb hq hr ha w i in
            let old : at t w ≡ at t (replied B m b q x) = ap (at t) e in
            let new : at s.table w ≡ at s.table (replied B m b q x) = ap (at s.table) e in
            risen x move (omega arith) (omega arith) more
            (noted (eased m (accepts B x) b) q x (eased_lt m (accepts B x) b hb) hq (move-within B F r a x move).2)

        go : Dec (low_at B m s.table b q r a ≤ at s.table v) → Stirred B m s b q r a
        go (yes h) = inl h
        go (no h) = found (omega arith) (low-risen (ceiling B m) (at t v) (at t) (at s.table) next (omega (arith, lows t, rest v within.0 within.1)))
