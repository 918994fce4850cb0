-- The first sweep of a cleared table: Duplicator's dead ends rise by themselves, and who else may rise has only steps to entries that have risen.
use Rattle.std.proofs.Common.{◌≡◌, sym, ◌∙◌, ◌⊎◌, inl, inr, List, ℕ, ◌≤◌, ◌<◌, max, arith, length}
use native.Mathlib.Decide.{dec_le}
use Rattle.games.specs.Game.{asked, at}
use Rattle.games.specs.Half.{Halved}
use Rattle.games.proofs.Asked.{lowest_le}
use Rattle.automaton.specs.declared.Mode.{Mode}
use Rattle.automaton.specs.Board.{Board, accepts, Formed}
use Rattle.simulation.specs.Moves.{Moves}
use Rattle.simulation.specs.Position.{duplicator, layers, pairs, positions, number}
use Rattle.simulation.specs.Rules.{eased, ceiling, game}
use Rattle.simulation.proofs.Moves.{move-within}
use Rattle.simulation.proofs.Inward.{eased_lt}
use Rattle.halves.specs.Half.{replied, low_at, Stirred, AllStirred}
use Rattle.halves.specs.Rising.{Rising, Noted, AllNoted}
use Rattle.halves.proofs.Places.{pair-below}
use Rattle.halves.proofs.Steps.{duplicator_asks, duplicator-step}
use Rattle.duplicators.specs.Growing.{Growing, Answered}
use Rattle.duplicators.proofs.Part.{at_out, asked-same}

-- t is a table of zeros, s what Spoiler's half has left of it, and u the table when the dead ends have risen too
module _ (B : Board) (m : Mode) (F : Formed B) (t u : List ℕ) (s : Rising) (zeros : (v : ℕ) → at t v ≡ 0) (noted : AllNoted B m t s)
    (same : (v : ℕ) → v < pairs B m → at u v ≡ at s.table v)
    (ended : (b q r a : ℕ) → b < layers m → q < B.n → r < B.n → a < B.k
    → ((x : ℕ) × Moves B r a x) ⊎ (low_at B m u b q r a ≤ at u (number B m (duplicator b q r a)))) where
  pub first-stirred : AllStirred B m (record { table = u; risen = s.risen; rows = s.rows; olds = s.olds })
  first-stirred b q r a hb hq hr ha = go (ended b q r a hb hq hr ha) (dec_le (low_at B m u b q r a) (at u v))
    where
      v : ℕ
      v = number B m (duplicator b q r a)

      now : Rising
      now = record { table = u; risen = s.risen; rows = s.rows; olds = s.olds }

      -- every step leads to an entry that is not 0
      over : (x : ℕ) → Moves B r a x → low_at B m u b q r a ≤ at u (replied B m b q x)
      over x move =
          rw (duplicator_asks B m F b q r a hb hq hr ha (at u)) (lowest_le (ceiling B m) (at u) (duplicator-step B m F b q r a hb hq hr ha x move))

      found : (x : ℕ) → Moves B r a x → at u v < low_at B m u b q r a → Noted B t s (eased m (accepts B x) b) q x → Stirred B m now b q r a
      found x move h (inl (none, kept)) =
          let i = pair-below B m F (eased m (accepts B x) b) q x (eased_lt m (accepts B x) b hb) hq (move-within B F r a x move).2 in
          absurd (omega (arith, over x move, same (replied B m b q x) i, zeros (replied B m b q x)))
      found x move h (inr (i, j, k, l)) = inr (x, move, i, j, omega (arith, zeros (replied B m b q x)))

      go : ((x : ℕ) × Moves B r a x) ⊎ (low_at B m u b q r a ≤ at u v) → Dec (low_at B m u b q r a ≤ at u v) → Stirred B m now b q r a
      go _ (yes h) = inl h
      go (inr h) (no n) = inl h
      go (inl (x, move)) (no n) =
          found x move (omega arith) (noted (eased m (accepts B x) b) q x (eased_lt m (accepts B x) b hb) hq (move-within B F r a x move).2)

-- s before Duplicator's half, u when some entries have risen to what they ask for, and w at the end
module _ (B : Board) (m : Mode) (F : Formed B) (s u : Growing) (w : List ℕ) {c : ℕ} (n : length s.table ≡ positions B m) (p : Answered B m s u c)
    (y : Halved (game B m) (pairs B m) (positions B m) u.table w) where
  pub rest_halved : Halved (game B m) (pairs B m) (positions B m) s.table w
  rest_halved = record { entries = y.entries ∙ p.entries; inside = λ v l h. inside v l h (p.due v l); outside = outside }
    where
      inside : (v : ℕ) → pairs B m ≤ v → v < positions B m
          → (at u.table v ≡ at s.table v) ⊎ ((at u.table v ≡ asked (game B m) (at s.table) v) × (at s.table v < at u.table v))
          → at w v ≡ max (at s.table v) (asked (game B m) (at s.table) v)
      inside v l h (inl e) = omega (arith, y.inside v l h, asked-same B m F s.table u.table p.others v l h)
      inside v l h (inr (e, k)) = omega (arith, y.inside v l h, asked-same B m F s.table u.table p.others v l h)

      outside : (v : ℕ) → (v < pairs B m) ⊎ (positions B m ≤ v) → at w v ≡ at s.table v
      outside v (inl h) = y.outside v (inl h) ∙ p.others v h
      outside v (inr h) = y.outside v (inr h) ∙ at_out u.table v (omega (arith, p.entries)) ∙ sym (at_out s.table v (omega arith))
