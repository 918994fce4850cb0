-- The rows of a layer, and the layers of the half: what has been raised, and what is at rest so far.
use Rattle.std.proofs.Common.{◌≡◌, sym, ◌∙◌, ◌⊎◌, inl, inr, Bool, true, false, List, ℕ, ◌+◌, ◌≤◌, ◌<◌, max, arith, length}
use Rattle.games.specs.Game.{asked, at}
use Rattle.games.specs.Half.{Halved}
use Rattle.words.specs.Word.{dig, In, Pop, Below, Joined, Met}
use Rattle.words.proofs.Sets.{empty, in_or-out, pop_cases, pop_sub, joined_in_left, joined_in_right, met_in, met_right}
use Rattle.automaton.specs.declared.Mode.{Mode}
use Rattle.automaton.specs.Board.{Board, accepts, Formed}
use Rattle.simulation.specs.Position.{duplicator, layers, pairs, positions, number}
use Rattle.simulation.specs.Rules.{eased, game}
use Rattle.arena.proofs.Open.{ready-again}
use Rattle.halves.specs.Half.{low_at, Stirred}
use Rattle.halves.proofs.Places.{each-duplicator}
use Rattle.halves.specs.Rising.{rising}
use Rattle.levels.proofs.Stored.{below_one}
use Rattle.duplicators.specs.declared.drawn.Drawn.{Drawn}
use Rattle.duplicators.specs.Growing.{Growing, Answered, AnsweredIn}
use Rattle.duplicators.specs.Rows.{Still, RowStill, LayerStill, RedStirred, LayerStirred, Prepared}
use Rattle.duplicators.proofs.Asking.{eased_stays}
use Rattle.duplicators.proofs.Found.{below_lt}
use Rattle.duplicators.proofs.Part.{at_out, low_same, part_none, part_still, part_join}
use Rattle.duplicators.proofs.Work.{spacious-again}

-- ---- what the work asks for holds after a part of it

pub prepared_again : (d : Drawn) (risen rows olds : List ℕ) (s u : Growing) {c : ℕ} → AnsweredIn d.game s u c
    → Prepared d (rising s.table risen rows olds) s.grown s.columns → Prepared d (rising u.table risen rows olds) u.grown u.columns
prepared_again d risen rows olds s u p o = record {
  ready = ready-again d.game.arena d.game.marks.now d.game.moves.now s.table u.table o.ready p.entries;
  faithful = o.faithful;
  spacious = spacious-again p o.spacious;
  roomy = record { risen = o.roomy.risen; rows = o.roomy.rows; olds = o.roomy.olds };
}

pub stirred_again : {B : Board} {m : Mode} {s u : Growing} {c : ℕ} → Answered B m s u c → Formed B → (risen rows olds : List ℕ) (b q : ℕ) → b < layers m → q < B.n
    → RedStirred B m (rising s.table risen rows olds) b q → RedStirred B m (rising u.table risen rows olds) b q
stirred_again {B} {m} {s} {u} p F risen rows olds b q hb hq stirred r a hr ha = go (stirred r a hr ha)
  where
    go : Stirred B m (rising s.table risen rows olds) b q r a → Stirred B m (rising u.table risen rows olds) b q r a
    go (inl h) = inl (part_still p F b q r a hb hq hr ha h)
    go (inr (x, v, i, k, l)) = inr (x, v, i, k, omega (arith, l, low_same B m F s.table u.table p.others b q r a hb hq hr ha))

-- ---- the rows of a layer

module _ (B : Board) (m : Mode) (b : ℕ) where
  -- those that are not left are at rest
  pub record Layer (s u : Growing) (left c : ℕ) : Type 0 where
    pub part : Answered B m s u c
    pub within : (q : ℕ) → In q left → q < B.n
    pub rest : (q : ℕ) → q < B.n → In q left ⊎ RowStill B m u.table b q

  -- a row that neither word has is at rest
  pub layer-start : (s : Growing) (risen rows olds : List ℕ) {touched every left : ℕ} → Joined (at rows b) (at rows (eased m true b)) touched → Below B.n every → Met touched every left
      → LayerStirred B m (rising s.table risen rows olds) b → Layer s s left 0
  layer-start s risen rows olds {touched} {every} {left} j all met stirred = record {
    part = part_none B m s;
    within = λ q i. below_lt all q (met_right met q i);
    rest = λ q h. rest q h (in_or-out left q);
  }
    where
      touches : (q : ℕ) (x : Bool) → In q (at rows (eased m x b)) → In q touched
      touches q true i = joined_in_right j q i
      touches q false i = joined_in_left j q (rw (eased_stays m b) at i)

      still : (q r a : ℕ) → q < B.n → dig left q ≡ 0 → Stirred B m (rising s.table risen rows olds) b q r a → Still B m s.table b q r a
      still q r a h out (inl k) = k
      still q r a h out (inr (x, v, i, k, l)) = absurd (omega (arith, met_in met q (touches q (accepts B x) k) (all.each q h)))

      rest : (q : ℕ) → q < B.n → In q left ⊎ (dig left q ≡ 0) → In q left ⊎ RowStill B m s.table b q
      rest q h (inl i) = inl i
      rest q h (inr out) = inr (λ r a hr ha. still q r a h out (stirred q h r a hr ha))

  pub layer-more : Formed B → {s u w : Growing} {left q rest c d : ℕ} → length s.table ≡ positions B m → b < layers m → Pop left q rest → Layer s u left c → Answered B m u w d
      → RowStill B m w.table b q → Layer s w rest (c + d)
  layer-more F {s} {u} {w} {left} {q} {rest} n hb p l o still = record {
    part = part_join F n l.part o;
    within = λ z i. l.within z (pop_sub p z i);
    rest = λ z h. go z h (l.rest z h);
  }
    where
      next : (z : ℕ) → (z ≡ q) ⊎ In z rest → In z rest ⊎ RowStill B m w.table b z
      next z (inl e) = inr (rw e still)
      next z (inr i) = inl i

      go : (z : ℕ) → z < B.n → In z left ⊎ RowStill B m u.table b z → In z rest ⊎ RowStill B m w.table b z
      go z h (inl i) = next z (pop_cases p z i)
      go z h (inr k) = inr (λ r a hr ha. part_still o F b z r a hb h hr ha (k r a hr ha))

  pub layer-end : {s u : Growing} {left c : ℕ} → left ≡ 0 → Layer s u left c → Answered B m s u c × LayerStill B m u.table b
  layer-end {s} {u} {left} e l = (l.part, λ q h. go q (l.rest q h))
    where
      go : (q : ℕ) → In q left ⊎ RowStill B m u.table b q → RowStill B m u.table b q
      go q (inl i) = absurd (empty q (rw e at i))
      go q (inr k) = k

-- ---- the layers of the half

module _ (B : Board) (m : Mode) where
  -- those before b are at rest
  pub record Half (s u : Growing) (b c : ℕ) : Type 0 where
    pub part : Answered B m s u c
    pub rest : (i : ℕ) → i < b → LayerStill B m u.table i

  pub half_start : (s : Growing) → Half s s 0 0
  half_start s = record { part = part_none B m s; rest = λ i h. absurd (omega arith) }

  pub half_more : Formed B → {s u w : Growing} {b c d : ℕ} → length s.table ≡ positions B m → b < layers m → Half s u b c → Answered B m u w d → LayerStill B m w.table b → Half s w (b + 1) (c + d)
  half_more F {s} {u} {w} {b} n hb l o still = record {
    part = part_join F n l.part o;
    rest = below_one (λ i. LayerStill B m w.table i) b (λ i h q hq r a hr ha. part_still o F i q r a (omega arith) hq hr ha (l.rest i h q hq r a hr ha)) still;
  }

  -- all layers at rest: the half is done
  pub half_done : Formed B → {s u : Growing} {c : ℕ} (lo : ℕ) → lo ≡ pairs B m → length s.table ≡ positions B m → Half s u (layers m) c
      → Halved (game B m) lo (length s.table) s.table u.table
  half_done F {s} {u} lo e n l = record { entries = l.part.entries; inside = inside; outside = outside }
    where
      risen : (v : ℕ) → asked (game B m) (at s.table) v ≤ at u.table v
          → (at u.table v ≡ at s.table v) ⊎ ((at u.table v ≡ asked (game B m) (at s.table) v) × (at s.table v < at u.table v))
          → at u.table v ≡ max (at s.table v) (asked (game B m) (at s.table) v)
      risen v h (inl k) = omega arith
      risen v h (inr (k, j)) = omega arith

      inside : (v : ℕ) → lo ≤ v → v < length s.table → at u.table v ≡ max (at s.table v) (asked (game B m) (at s.table) v)
      inside v i h =
          let (b, q, r, a, hb, hq, hr, ha, k) = each-duplicator B m F v (omega arith) (omega arith) in
          let still : low_at B m s.table b q r a ≤ at u.table (number B m (duplicator b q r a)) =
          omega (arith, l.rest b hb q hq r a hr ha, low_same B m F s.table u.table l.part.others b q r a hb hq hr ha) in
          risen v (rw k still) (l.part.due v (omega arith))

      outside : (v : ℕ) → (v < lo) ⊎ (length s.table ≤ v) → at u.table v ≡ at s.table v
      outside v (inl h) = l.part.others v (omega arith)
      outside v (inr h) = at_out u.table v (omega (arith, l.part.entries)) ∙ sym (at_out s.table v h)
