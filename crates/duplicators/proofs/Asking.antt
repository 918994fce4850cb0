-- What Duplicator's (b,q,r,a) asks for, by the states that its moves lead to.
use Rattle.std.proofs.Common.{◌≡◌, refl, sym, ap, ◌∙◌, ◌⊎◌, inl, inr, Bool, true, false, List, ℕ, ◌+◌, ◌*◌, ◌-◌, ◌≤◌, ◌<◌, max, arith, eq-eqb, ne_eqb, eqb, length}
use mathlib.Core.List.{Memᴰ}
use Rattle.games.specs.Game.{Kind, ask, lowest, at}
use Rattle.games.proofs.Asked.{lowest_le, lowest-cap}
use Rattle.games.proofs.Rule.{lowest_in}
use Rattle.words.specs.Word.{dig, In}
use Rattle.automaton.specs.declared.Mode.{Mode}
use Rattle.automaton.specs.declared.Mode.TheVariants.{Ordinary, Direct, Delayed, Fair}
use Rattle.automaton.specs.Board.{Board, accepts, Formed}
use Rattle.simulation.specs.Moves.{Moves}
use Rattle.simulation.specs.Position.{duplicator, layers, positions, pair, number}
use Rattle.simulation.specs.Rules.{eased, bit, ceiling, game}
use Rattle.simulation.proofs.Moves.{move-within}
use Rattle.simulation.proofs.Inward.{eased_lt}
use Rattle.simulation.proofs.Position.{positions_are}
use Rattle.halves.specs.Drawn.{Accepting, Onto}
use Rattle.halves.specs.Half.{low_at, replied}
use Rattle.halves.proofs.Places.{pair-below}
use Rattle.halves.proofs.Steps.{duplicator-kind, duplicator-step, duplicator_stepped}
use Rattle.levels.specs.Lows.{LowOf, LowPast, Within}
use Rattle.duplicators.specs.declared.seats.Row.{Row}
use Rattle.duplicators.specs.Rows.{Rowed, seat_by, seen_in, Seats}

-- ---- Low over the moves

module _ (B : Board) (m : Mode) (F : Formed B) (t : List ℕ) (b q r a : ℕ) (hb : b < layers m) (hq : q < B.n) (hr : r < B.n) (ha : a < B.k) where
  low-is : low_at B m t b q r a ≡ lowest (ceiling B m) (at t) ((game B m).next (number B m (duplicator b q r a)))
  unfolding ask
  low-is = ap (λ (k : Kind). ask k (ceiling B m) (at t) ((game B m).next (number B m (duplicator b q r a)))) (duplicator-kind B m F b q r a hb hq hr ha)

  pub low-cap : low_at B m t b q r a ≤ ceiling B m
  low-cap = rw low-is (lowest-cap (ceiling B m) (at t) _)

  pub low-under : (x : ℕ) → Moves B r a x → low_at B m t b q r a ≤ at t (replied B m b q x)
  low-under x v = rw low-is (lowest_le (ceiling B m) (at t) (duplicator-step B m F b q r a hb hq hr ha x v))

  pub low-some : (low_at B m t b q r a ≡ ceiling B m) ⊎ ((x : ℕ) × Moves B r a x × (at t (replied B m b q x) ≡ low_at B m t b q r a))
  low-some = rw low-is (go (lowest_in (ceiling B m) (at t) ((game B m).next (number B m (duplicator b q r a)))))
    where
      go : (lowest (ceiling B m) (at t) ((game B m).next (number B m (duplicator b q r a))) ≡ ceiling B m)
          ⊎ ((w : ℕ) × Memᴰ w ((game B m).next (number B m (duplicator b q r a))) × (at t w ≡ lowest (ceiling B m) (at t) ((game B m).next (number B m (duplicator b q r a)))))
          → (lowest (ceiling B m) (at t) ((game B m).next (number B m (duplicator b q r a))) ≡ ceiling B m)
          ⊎ ((x : ℕ) × Moves B r a x × (at t (replied B m b q x) ≡ lowest (ceiling B m) (at t) ((game B m).next (number B m (duplicator b q r a)))))
      go (inl e) = inl e
      go (inr (w, i, e)) = let (x, (v, y)) = duplicator_stepped B m F b q r a hb hq hr ha w i in inr (x, v, ap (at t) (sym y) ∙ e)

  -- ---- and over the word of the states that they lead to

  module _ (onto : List ℕ) (drawn : Onto B onto) (f : ℕ → ℕ) (same : (x : ℕ) → x < B.n → f x ≡ at t (replied B m b q x)) where
    pub steps-within : Within (at onto (r * B.k + a)) B.n
    steps-within x i = (move-within B F r a x (drawn.move r a x hr ha i)).2

    low-over : (x : ℕ) → In x (at onto (r * B.k + a)) → low_at B m t b q r a ≤ f x
    low-over x i = rw (same x (steps-within x i)) (low-under x (drawn.move r a x hr ha i))

    pub low-at : {e : ℕ} → LowOf f (at onto (r * B.k + a)) (ceiling B m) e → e ≡ low_at B m t b q r a
    low-at {e} l = omega (arith, up l.some, down low-some)
      where
        up : (e ≡ ceiling B m) ⊎ ((x : ℕ) × In x (at onto (r * B.k + a)) × (f x ≡ e)) → low_at B m t b q r a ≤ e
        up (inl k) = omega (arith, low-cap)
        up (inr (x, i, k)) = omega (arith, low-over x i)

        down : (low_at B m t b q r a ≡ ceiling B m) ⊎ ((x : ℕ) × Moves B r a x × (at t (replied B m b q x) ≡ low_at B m t b q r a)) → e ≤ low_at B m t b q r a
        down (inl k) = omega (arith, l.cap)
        down (inr (x, v, k)) = omega (arith, l.each x (drawn.held r a x v), same x (move-within B F r a x v).2)

    pub low-past : {old e : ℕ} → LowPast f (at onto (r * B.k + a)) (ceiling B m) old e → max old e ≡ max old (low_at B m t b q r a)
    low-past {old} {e} (inl l) = ap (max old) (low-at l)
    low-past {old} {e} (inr (h, o)) = omega (arith, go o)
      where
        go : (ceiling B m ≤ old) ⊎ ((x : ℕ) × In x (at onto (r * B.k + a)) × (f x ≤ old)) → low_at B m t b q r a ≤ old
        go (inl k) = omega (arith, low-cap)
        go (inr (x, i, k)) = omega (arith, low-over x i)

-- ---- the row's own seats

pub eased_stays : (m : Mode) (b : ℕ) → eased m false b ≡ b
eased_stays Ordinary b = refl
eased_stays Direct b = refl
eased_stays Delayed b = refl
eased_stays Fair b = refl

module _ (B : Board) (m : Mode) (F : Formed B) (w : Row) (o : Rowed B.n m w) where
  pub seen_same : (acc : ℕ) → Accepting B acc → (t : List ℕ) (x : ℕ) → x < B.n → seen_in acc t w x ≡ at t (replied B m w.b w.q x)
  seen_same acc drawn t x h = ap (at t) (go (accepts B x) (drawn.each x h))
    where
      go : (s : Bool) → dig acc x ≡ bit s → seat_by (eqb (dig acc x) 1) w x ≡ pair B (eased m s w.b) w.q x
      go true e = rw (eq-eqb (dig acc x) 1 e) (omega (arith, o.marked))
      go false e = rw (ne_eqb (dig acc x) 1 (λ i. omega arith), eased_stays m w.b) (omega (arith, o.plain))

  pub row-seats : (t : List ℕ) → length t ≡ positions B m → Seats B.n w t
  row-seats t n =
      let last : B.n - 1 < B.n = omega (arith, F.states) in (
        omega (arith, o.plain, F.states, pair-below B m F w.b w.q (B.n - 1) o.bit o.red last, positions_are B m),
        omega (arith, o.marked, F.states, pair-below B m F (eased m true w.b) w.q (B.n - 1) (eased_lt m true w.b o.bit) o.red last, positions_are B m),
      )
