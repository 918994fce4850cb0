-- The candidates of a row cover what is not at rest in it, with and without those that a low entry holds down; and its levels tell what they ask for.
use Rattle.std.proofs.Common.{◌≡◌, subst, ◌⊎◌, inl, inr, List, ℕ, ◌+◌, ◌*◌, ◌<◌, arith}
use native.Mathlib.Decide.{dec_lt}
use Rattle.games.specs.Game.{at}
use Rattle.words.specs.Word.{dig, In, Minus, Below}
use Rattle.words.proofs.Sets.{empty, in_or-out}
use Rattle.automaton.specs.declared.Mode.{Mode}
use Rattle.automaton.specs.Board.{Board, Formed}
use Rattle.simulation.specs.Moves.{Moves}
use Rattle.simulation.specs.Position.{layers}
use Rattle.simulation.specs.Rules.{ceiling}
use Rattle.simulation.proofs.Moves.{move-within}
use Rattle.halves.specs.Drawn.{Into, Onto}
use Rattle.halves.specs.Half.{low_at, replied}
use Rattle.levels.specs.Candidates.{Leads, Found, AllSpared, AllIn}
use Rattle.levels.specs.declared.row.Level.{Level}
use Rattle.levels.specs.Levels.{Levels}
use Rattle.levels.specs.Lows.{LowOf, Within, AllWithin}
use Rattle.levels.proofs.Peeling.{hit-low}
use Rattle.duplicators.specs.Growing.{Growing, Answered}
use Rattle.duplicators.specs.Rows.{AtMost, Still, RowStill, RowStirred, RowFound, FoundStill, FoundTold}
use Rattle.duplicators.proofs.Asking.{low-under, low-at}
use Rattle.duplicators.proofs.Part.{part_still}

pub below_lt : {n every : ℕ} → Below n every → (x : ℕ) → In x every → x < n
below_lt {n} b x i = go (dec_lt x n)
  where
    go : Dec (x < n) → x < n
    go (yes h) = h
    go (no h) = absurd (omega (arith, b.none x (omega arith)))

module _ (B : Board) (m : Mode) (F : Formed B) (into : List ℕ) (drawn : Into B into) where
  -- ---- the candidates found

  pub found_within : (fresh : ℕ) (found : List ℕ) → Within fresh B.n → Found into B.k fresh found → AllWithin B.k B.n found
  found_within fresh found within f a h r i =
      let (x, k, l) = (f a h).from r i in
      (move-within B F r a x (drawn.move r a x (within x k) h l)).0

  pub found_row : (t : List ℕ) (b q fresh old : ℕ) (found : List ℕ) → Found into B.k fresh found → RowStirred B m t b q fresh old → RowFound B m t b q found old
  found_row t b q fresh old found f stirred r a hr ha = go (stirred r a hr ha)
    where
      go : Still B m t b q r a ⊎ ((x : ℕ) × Moves B r a x × In x fresh × (old < low_at B m t b q r a)) → Still B m t b q r a ⊎ (In r (at found a) × (old < low_at B m t b q r a))
      go (inl h) = inl h
      go (inr (x, v, i, l)) = inr ((f a ha).all r x i (drawn.held r a x v), l)

  -- ---- what is spared of them

  module _ (t : List ℕ) (b q old low : ℕ) (row found left : List ℕ) (hb : b < layers m) (hq : q < B.n)
      (same : (x : ℕ) → x < B.n → at row x ≡ at t (replied B m b q x)) (most : AtMost B.n row old low) (spared : AllSpared into B.k low found left) where
    pub spared_within : AllWithin B.k B.n found → AllWithin B.k B.n left
    spared_within within a h r i = within a h r ((spared a h).sub r i)

    -- a step to an entry of at most `old` holds a position down
    pub spared_row : RowFound B m t b q found old → (r a : ℕ) → r < B.n → a < B.k → Still B m t b q r a ⊎ In r (at left a)
    spared_row covers r a hr ha = go (covers r a hr ha)
      where
        held : old < low_at B m t b q r a → In r (at left a) ⊎ ((x : ℕ) × In x low × Leads into B.k r a x) → Still B m t b q r a ⊎ In r (at left a)
        held l (inl i) = inr i
        held l (inr (x, i, k)) =
            let o = most.within x i in
            absurd (omega (arith, low-under B m F t b q r a hb hq hr ha x (drawn.move r a x o.0 ha k), same x o.0, o.1))

        go : Still B m t b q r a ⊎ (In r (at found a) × (old < low_at B m t b q r a)) → Still B m t b q r a ⊎ In r (at left a)
        go (inl h) = inl h
        go (inr (i, l)) = held l ((spared a ha).gone r i)

    -- no candidate is left
    pub spared_none : (any : ℕ) → AllIn B.k left any → any ≡ 0 → RowFound B m t b q found old → RowStill B m t b q
    spared_none any all none covers r a hr ha = go (spared_row covers r a hr ha)
      where
        go : Still B m t b q r a ⊎ In r (at left a) → Still B m t b q r a
        go (inl h) = h
        go (inr i) = absurd (empty r (rw none at (all a r ha i)))

    -- the levels of the states that are not low
    pub spared_told : (onto : List ℕ) → Onto B onto → (T every rest : ℕ) → T ≡ ceiling B m → Below B.n every → Minus every low rest → (levels : List Level)
        → Levels (at row) rest T levels → AllWithin B.k B.n left → FoundTold B m t b q onto levels T left
    spared_told onto drawn' T every rest top all minus levels peeled within a ha r i e hit =
        low-at B m F t b q r a hb hq hr ha onto drawn' (at row) same
        (subst (λ (y : ℕ). LowOf (at row) (at onto (r * B.k + a)) y e) top (hit-low (at row) rest T levels peeled steps hit))
      where
        hr : r < B.n
        hr = within a ha r i

        steps : (x : ℕ) → In x (at onto (r * B.k + a)) → In x rest
        steps x k = go (in_or-out low x)
          where
            move : Moves B r a x
            move = drawn'.move r a x hr ha k

            go : In x low ⊎ (dig low x ≡ 0) → In x rest
            go (inl l) = absurd ((spared a ha).off r x i l (drawn.held r a x move))
            go (inr o) = minus.keep x (all.each x (move-within B F r a x move).2) o

-- what is not at rest is a candidate
pub found_covers : (B : Board) (m : Mode) (t found : List ℕ) (b q old : ℕ) → RowFound B m t b q found old → (r a : ℕ) → r < B.n → a < B.k → Still B m t b q r a ⊎ In r (at found a)
found_covers B m t found b q old covers r a hr ha = go (covers r a hr ha)
  where
    go : Still B m t b q r a ⊎ (In r (at found a) × (old < low_at B m t b q r a)) → Still B m t b q r a ⊎ In r (at found a)
    go (inl h) = inl h
    go (inr (i, l)) = inr i

-- the candidates that are left have been raised
pub row_done : {B : Board} {m : Mode} {s u : Growing} {c : ℕ} → Formed B → (b q : ℕ) (left : List ℕ) → b < layers m → q < B.n → Answered B m s u c
    → ((r a : ℕ) → r < B.n → a < B.k → Still B m s.table b q r a ⊎ In r (at left a)) → FoundStill B m u.table b q B.k left → RowStill B m u.table b q
row_done {B} {m} {s} {u} F b q left hb hq p covers still r a hr ha = go (covers r a hr ha)
  where
    go : Still B m s.table b q r a ⊎ In r (at left a) → Still B m u.table b q r a
    go (inl h) = part_still p F b q r a hb hq hr ha h
    go (inr i) = still a ha r i
