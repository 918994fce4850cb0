-- Parts of Duplicator's half: none, one entry raised, and one part after another.
use Rattle.std.proofs.Common.{◌≡◌, refl, ◌∙◌, ◌⊎◌, inl, inr, List, [], ◌∷◌, ℕ, zero, suc, ◌+◌, ◌≤◌, ◌<◌, arith, length, set, length-set, get_or-set_same, get_or-set_other}
use mathlib.Core.List.{Memᴰ}
use native.Mathlib.Decide.{ℕ_discrete, dec_lt}
use Rattle.games.specs.Game.{asked, at}
use Rattle.games.proofs.Asked.{asked_local}
use Rattle.games.proofs.Rose.{rose-none, rose-most, rose-join, rose-put}
use Rattle.automaton.specs.declared.Mode.{Mode}
use Rattle.automaton.specs.Board.{Board, Formed}
use Rattle.simulation.specs.Position.{duplicator, layers, pairs, positions, number}
use Rattle.simulation.specs.Rules.{game}
use Rattle.simulation.proofs.Inward.{inward}
use Rattle.simulation.proofs.Limits.{positions-most}
use Rattle.halves.specs.Half.{low_at}
use Rattle.halves.specs.Rising.{Marked}
use Rattle.halves.proofs.Apart.{duplicators_apart}
use Rattle.halves.proofs.Places.{duplicator-within, number-one}
use Rattle.duplicators.specs.Growing.{Growing, Answered, MarkedToo}
use Rattle.duplicators.specs.Rows.{Still}

-- beyond its end a list has no entry
pub at_out : (l : List ℕ) (v : ℕ) → length l ≤ v → at l v ≡ 0
at_out [] v h = refl
at_out (x ∷ l) zero h = absurd (omega arith)
at_out (x ∷ l) (suc v) h = at_out l v (omega arith)

-- ---- what a position asks for rests on Spoiler's entries alone

module _ (B : Board) (m : Mode) (F : Formed B) where
  abbrev Others : (t u : List ℕ) → Type 0
  Others t u = (v : ℕ) → v < pairs B m → at u v ≡ at t v

  pub asked-same : (t u : List ℕ) → Others t u → (v : ℕ) → pairs B m ≤ v → v < positions B m → asked (game B m) (at u) v ≡ asked (game B m) (at t) v
  asked-same t u others v l h = asked_local (game B m) (at u) (at t) v (λ w i. go w i (dec_lt w (pairs B m)))
    where
      go : (w : ℕ) → Memᴰ w ((game B m).next v) → Dec (w < pairs B m) → at u w ≡ at t w
      go w i (yes k) = others w k
      go w i (no k) = absurd (duplicators_apart B m F v w l h i (omega arith) (inward B F m v h w i))

  pub low_same : (t u : List ℕ) → Others t u → (b q r a : ℕ) → b < layers m → q < B.n → r < B.n → a < B.k → low_at B m u b q r a ≡ low_at B m t b q r a
  low_same t u others b q r a hb hq hr ha = let w = duplicator-within B m F b q r a hb hq hr ha in asked-same t u others _ w.0 w.1

-- ---- what a part does to an entry

module _ {B : Board} {m : Mode} {s u : Growing} {c : ℕ} (p : Answered B m s u c) where
  pub part_grows : (v : ℕ) → at s.table v ≤ at u.table v
  part_grows v = go (dec_lt v (pairs B m))
    where
      up : (at u.table v ≡ at s.table v) ⊎ ((at u.table v ≡ asked (game B m) (at s.table) v) × (at s.table v < at u.table v)) → at s.table v ≤ at u.table v
      up (inl e) = omega arith
      up (inr (e, l)) = omega arith

      go : Dec (v < pairs B m) → at s.table v ≤ at u.table v
      go (yes h) = omega (arith, p.others v h)
      go (no h) = up (p.due v (omega arith))

  pub part_still : Formed B → (b q r a : ℕ) → b < layers m → q < B.n → r < B.n → a < B.k → Still B m s.table b q r a → Still B m u.table b q r a
  part_still F b q r a hb hq hr ha h =
      omega (arith, h, low_same B m F s.table u.table p.others b q r a hb hq hr ha, part_grows (number B m (duplicator b q r a)))

  -- no more than the entries that there are
  pub part-most : c ≤ length s.table
  part-most = omega (arith, p.count, rose-most s.table u.table (length s.table))

  -- far below what a machine number holds
  pub part-few : Formed B → length s.table ≡ positions B m → c ≤ 139264
  part-few F n = omega (arith, part-most, positions-most B F m)

-- ---- none

pub part_none : (B : Board) (m : Mode) (s : Growing) → Answered B m s s 0
part_none B m s = record {
  entries = refl;
  words = refl;
  sets = refl;
  others = λ v h. refl;
  due = λ v h. inl refl;
  marked = λ b q r a hb hq hr ha. inl refl;
  kept = λ b q r a i. i;
  count = rose-none s.table (length s.table);
}

-- ---- one entry

module _ (B : Board) (m : Mode) (F : Formed B) (s : Growing) (b q r a e : ℕ) (hb : b < layers m) (hq : q < B.n) (hr : r < B.n) (ha : a < B.k) where
  pub part-put : (grown columns : List ℕ) → length s.table ≡ positions B m → at s.table (number B m (duplicator b q r a)) < e → e ≡ low_at B m s.table b q r a
      → MarkedToo B s.grown s.columns grown columns b q r a
      → Answered B m s (record { table = set s.table (number B m (duplicator b q r a)) e; grown = grown; columns = columns }) 1
  part-put grown columns n up asks also = record {
    entries = length-set s.table v e;
    words = also.words;
    sets = also.sets;
    others = λ w h. get_or-set_other s.table v w e 0 (λ i. omega (arith, within.0));
    due = λ w h. due w (ℕ_discrete w v);
    marked = λ b' q' r' a' hb' hq' hr' ha'. marked b' q' r' a' hq' hr' ha' (ℕ_discrete (number B m (duplicator b' q' r' a')) v);
    kept = also.kept;
    count = omega (arith, rose-put s.table s.table (length s.table) v e room room refl up, rose-none s.table (length s.table));
  }
    where
      v : ℕ
      v = number B m (duplicator b q r a)

      within : (pairs B m ≤ v) × (v < positions B m)
      within = duplicator-within B m F b q r a hb hq hr ha

      room : v < length s.table
      room = omega (arith, within.1)

      same : at (set s.table v e) v ≡ e
      same = get_or-set_same s.table v e 0 room

      due : (w : ℕ) → Dec (w ≡ v)
          → (at (set s.table v e) w ≡ at s.table w) ⊎ ((at (set s.table v e) w ≡ asked (game B m) (at s.table) w) × (at s.table w < at (set s.table v e) w))
      due w (yes i) = inr (rw i (same ∙ asks), rw (i, same) up)
      due w (no i) = inl (get_or-set_other s.table v w e 0 i)

      marked : (b' q' r' a' : ℕ) → q' < B.n → r' < B.n → a' < B.k → Dec (number B m (duplicator b' q' r' a') ≡ v)
          → (at (set s.table v e) (number B m (duplicator b' q' r' a')) ≡ at s.table (number B m (duplicator b' q' r' a'))) ⊎ Marked B grown columns b' q' r' a'
      marked b' q' r' a' hq' hr' ha' (yes i) =
          let (x, y, z, w) = number-one B m {b = b'} {q = q'} {r = r'} {a = a'} {b' = b} {q' = q} {r' = r} {a' = a} hq' hr' ha' hq hr ha i in
          inr (rw (x, y, z, w) also.here)
      marked b' q' r' a' hq' hr' ha' (no i) = inl (get_or-set_other s.table v _ e 0 i)

-- ---- one part after another

module _ {B : Board} {m : Mode} (F : Formed B) {s u w : Growing} {c d : ℕ} (n : length s.table ≡ positions B m) (p : Answered B m s u c) (o : Answered B m u w d) where
  abbrev Due : (t y : List ℕ) → ℕ → Type 0
  Due t y v = (at y v ≡ at t v) ⊎ ((at y v ≡ asked (game B m) (at t) v) × (at t v < at y v))

  -- an entry that rose is within the table, and asks for the same still
  again : (v : ℕ) → pairs B m ≤ v → at u.table v < at w.table v → asked (game B m) (at u.table) v ≡ asked (game B m) (at s.table) v
  again v h l = go (dec_lt v (positions B m))
    where
      go : Dec (v < positions B m) → asked (game B m) (at u.table) v ≡ asked (game B m) (at s.table) v
      go (yes k) = asked-same B m F s.table u.table p.others v h k
      go (no k) = absurd (omega (arith, at_out w.table v (omega (arith, o.entries, p.entries))))

  due-join : (v : ℕ) → pairs B m ≤ v → Due s.table u.table v → Due u.table w.table v → Due s.table w.table v
  due-join v h (inl e) (inl f) = inl (f ∙ e)
  due-join v h (inl e) (inr (f, l)) = inr (f ∙ again v h l, omega arith)
  due-join v h (inr (e, k)) (inl f) = inr (f ∙ e, omega arith)
  due-join v h (inr (e, k)) (inr (f, l)) = absurd (omega (arith, again v h l))

  -- at most one of the two raises an entry
  once : (v : ℕ) → (at u.table v ≡ at s.table v) ⊎ (at w.table v ≡ at u.table v)
  once v = go (dec_lt v (pairs B m))
    where
      one : pairs B m ≤ v → Due s.table u.table v → Due u.table w.table v → (at u.table v ≡ at s.table v) ⊎ (at w.table v ≡ at u.table v)
      one h (inl e) f = inl e
      one h (inr e) (inl f) = inr f
      one h (inr (e, k)) (inr (f, l)) = absurd (omega (arith, again v h l))

      go : Dec (v < pairs B m) → (at u.table v ≡ at s.table v) ⊎ (at w.table v ≡ at u.table v)
      go (yes h) = inl (p.others v h)
      go (no h) = one (omega arith) (p.due v (omega arith)) (o.due v (omega arith))

  pub part_join : Answered B m s w (c + d)
  part_join = record {
    entries = o.entries ∙ p.entries;
    words = o.words ∙ p.words;
    sets = o.sets ∙ p.sets;
    others = λ v h. o.others v h ∙ p.others v h;
    due = λ v h. due-join v h (p.due v h) (o.due v h);
    marked = λ b q r a hb hq hr ha. marked b q r a (p.marked b q r a hb hq hr ha) (o.marked b q r a hb hq hr ha);
    kept = λ b q r a i. o.kept b q r a (p.kept b q r a i);
    count = omega (arith, rose-join s.table u.table w.table (length s.table) once, p.count, rw p.entries at o.count);
  }
    where
      marked : (b q r a : ℕ)
          → (at u.table (number B m (duplicator b q r a)) ≡ at s.table (number B m (duplicator b q r a))) ⊎ Marked B u.grown u.columns b q r a
          → (at w.table (number B m (duplicator b q r a)) ≡ at u.table (number B m (duplicator b q r a))) ⊎ Marked B w.grown w.columns b q r a
          → (at w.table (number B m (duplicator b q r a)) ≡ at s.table (number B m (duplicator b q r a))) ⊎ Marked B w.grown w.columns b q r a
      marked b q r a x (inr j) = inr j
      marked b q r a (inl e) (inl f) = inl (f ∙ e)
      marked b q r a (inr i) (inl f) = inr (o.kept b q r a i)

-- two parts, one after the other, are far below what a machine number holds
pub parts-few : {B : Board} {m : Mode} {s u w : Growing} {c d : ℕ} → Formed B → length s.table ≡ positions B m → Answered B m s u c → Answered B m u w d → c + d ≤ 278528
parts-few F n p o = omega (arith, part-few p F n, part-few o F (p.entries ∙ n))
