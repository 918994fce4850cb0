-- The states of a row whose entries have risen, as the row's positions see them.
use Rattle.std.proofs.Common.{◌≡◌, ◌⊎◌, inl, inr, Bool, true, false, List, ℕ, ◌+◌, ◌*◌, ◌<◌, min, arith}
use Rattle.games.specs.Game.{at}
use Rattle.words.specs.Word.{dig, In, Minus, Below, Joined, Met}
use Rattle.words.proofs.Sets.{empty, minus-sub, joined-cases, joined_in_left, joined_in_right, met_in, met_right}
use Rattle.automaton.specs.declared.Mode.{Mode}
use Rattle.automaton.specs.Board.{Board, accepts, Formed}
use Rattle.simulation.specs.Moves.{Moves}
use Rattle.simulation.specs.Rules.{eased, bit}
use Rattle.simulation.proofs.Moves.{move-within}
use Rattle.halves.specs.Drawn.{Accepting}
use Rattle.halves.specs.Half.{low_at, Stirred}
use Rattle.halves.specs.Rising.{rising}
use Rattle.levels.specs.Lows.{Within}
use Rattle.duplicators.specs.Fresh.{Fresh}
use Rattle.duplicators.specs.Rows.{Still, RowStill, RowStirred, RedStirred}
use Rattle.duplicators.proofs.Asking.{eased_stays}
use Rattle.duplicators.proofs.Found.{below_lt}

pub fresh_made : {acc others one second p q r : ℕ} → Met one others p → Met second acc q → Joined p q r → Fresh acc others one second r
fresh_made {acc} {others} {one} {second} {p} {q} {r} m n j = record {
  from = λ x i. from x (joined-cases j x i);
  plain = λ x i k. joined_in_left j x (met_in m x i k);
  marked = λ x i k. joined_in_right j x (met_in n x i k);
}
  where
    from : (x : ℕ) → In x p ⊎ In x q → In x others ⊎ In x acc
    from x (inl i) = inl (met_right m x i)
    from x (inr i) = inr (met_right n x i)

-- from the states whose entries have risen, and the lesser of the old entries of both rows
module _ (B : Board) (m : Mode) (F : Formed B) (acc : ℕ) (drawn : Accepting B acc) (t risen rows olds : List ℕ) (b q every others fresh old : ℕ)
    (all : Below B.n every) (rest : Minus every acc others) (f : Fresh acc others (at risen (b * B.n + q)) (at risen (eased m true b * B.n + q)) fresh)
    (least : old ≡ min (at olds (b * B.n + q)) (at olds (eased m true b * B.n + q))) where
  pub fresh-within : Within fresh B.n
  fresh-within x i = go (f.from x i)
    where
      go : In x others ⊎ In x acc → x < B.n
      go (inl k) = below_lt all x (minus-sub rest x k)
      go (inr k) = drawn.states x k

  pub red-row : RedStirred B m (rising t risen rows olds) b q → RowStirred B m t b q fresh old
  red-row stirred r a hr ha = go (stirred r a hr ha)
    where
      seen : (x : ℕ) → x < B.n → (s : Bool) → dig acc x ≡ bit s → In x (at risen (eased m s b * B.n + q)) → at olds (eased m s b * B.n + q) < low_at B m t b q r a
          → In x fresh × (old < low_at B m t b q r a)
      seen x h true e i l = (f.marked x i e, omega arith)
      seen x h false e i l =
          let s = eased_stays m b in
          let l' : at olds (b * B.n + q) < low_at B m t b q r a = rw s at l in
          (f.plain x (rw s at i) (rest.keep x (all.each x h) e), omega arith)

      go : Stirred B m (rising t risen rows olds) b q r a → Still B m t b q r a ⊎ ((x : ℕ) × Moves B r a x × In x fresh × (old < low_at B m t b q r a))
      go (inl h) = inl h
      go (inr (x, v, i, k, l)) =
          let h = (move-within B F r a x v).2 in
          let o = seen x h (accepts B x) (drawn.each x h) i l in
          inr (x, v, o.0, o.1)

  -- no entry has risen
  pub fresh-none : fresh ≡ 0 → RedStirred B m (rising t risen rows olds) b q → RowStill B m t b q
  fresh-none none stirred r a hr ha = go (red-row stirred r a hr ha)
    where
      go : Still B m t b q r a ⊎ ((x : ℕ) × Moves B r a x × In x fresh × (old < low_at B m t b q r a)) → Still B m t b q r a
      go (inl h) = h
      go (inr (x, v, i, l)) = absurd (empty x (rw none at i))
