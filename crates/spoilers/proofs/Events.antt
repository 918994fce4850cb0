-- One of Spoiler's entries raised to at most what it asks for: for the first time in a half it counts 1 and is noted, and again it counts 0.
use Rattle.std.proofs.Common.{Bool, ◌≡◌, refl, sym, ap, ◌∙◌, ◌≢◌, ◌⊎◌, inl, inr, List, ℕ, ◌+◌, ◌*◌, ◌≤◌, ◌<◌, le_refl, le_trans, arith, length, set, length-set, get_or-set_same, get_or-set_other}
use native.Mathlib.Decide.{ℕ_discrete}
use Rattle.games.specs.Game.{asked, at}
use Rattle.games.specs.Half.{rose}
use Rattle.games.proofs.Rose.{rose-put, rose-again}
use Rattle.words.specs.Word.{dig, In}
use Rattle.automaton.specs.declared.Mode.{Mode}
use Rattle.automaton.specs.Board.{Board, Formed}
use Rattle.simulation.specs.Position.{layers, pairs, pair}
use Rattle.simulation.specs.Rules.{game}
use Rattle.std.specs.Int.{from_bool}
use Rattle.halves.specs.Rising.{Rising, Noted, Spoiling, Pushed, rising}
use Rattle.halves.proofs.Places.{pair_row, pair_one, pair-below}
use Rattle.spoilers.specs.Note.{First, Again, Noting}
use Rattle.spoilers.proofs.Writes.{inserted_old, inserted_away}
use Rattle.spoilers.proofs.Parts.{asked-kept}

module _ (B : Board) (m : Mode) (F : Formed B) (b q r e : ℕ) (hb : b < layers m) (hq : q < B.n) (hr : r < B.n)
    (t : List ℕ) (within : pair B b q r < length t) (up : at t (pair B b q r) < e) (due : e ≤ asked (game B m) (at t) (pair B b q r)) where
  abbrev i : ℕ
  i = pair B b q r

  abbrev below : i < pairs B m
  below = pair-below B m F b q r hb hq hr

  -- the table after the write
  abbrev raised : List ℕ
  raised = set t i e

  same : at raised i ≡ e
  same = get_or-set_same t i e 0 within

  other : (v : ℕ) → v ≢ i → at raised v ≡ at t v
  other v n = get_or-set_other t i v e 0 n

  grows : (v : ℕ) → Dec (v ≡ i) → at t v ≤ at raised v
  grows v (yes d) = rw d (omega (arith, same))
  grows v (no n) = omega (arith, other v n)

  stays : (v : ℕ) → pairs B m ≤ v → at raised v ≡ at t v
  stays v h = other v (λ d. omega (arith, below))

  -- ---- what was a half so far is one

  module _ (ri ro ol ri' ro' ol' : List ℕ) where
    abbrev s : Rising
    s = rising t ri ro ol

    abbrev u : Rising
    u = rising raised ri' ro' ol'

    -- of another position: it is in its row if it was, its row is among the rows if it was, and the row's old entry is no greater
    abbrev Left : (b' q' r' : ℕ) → Type 0
    Left b' q' r' =
        (dig (at ri' (b' * B.n + q')) r' ≡ dig (at ri (b' * B.n + q')) r') × (In q' (at ro b') → In q' (at ro' b')) × (at ol' (b' * B.n + q') ≤ at ol (b' * B.n + q'))

    module _ (t₀ : List ℕ) (d : ℕ) (sp : Spoiling B m t₀ s d) where
      dues : (v : ℕ) → v < pairs B m → Dec (v ≡ i) → (at raised v ≡ at t₀ v) ⊎ (at raised v ≤ asked (game B m) (at t₀) v)
      dues v h (yes p) = inr (rw p (omega (arith, same, due, asked-kept B m F t₀ t sp.others i below)))
      dues v h (no n) = rw (other v n) (sp.due v h)

      elsewhere : (b' q' r' : ℕ) → pair B b' q' r' ≢ i → Left b' q' r' → Noted B t₀ s b' q' r' → Noted B t₀ u b' q' r'
      elsewhere b' q' r' n (x, y, z) (inl (a, c)) = inl (x ∙ a, other (pair B b' q' r') n ∙ c)
      elsewhere b' q' r' n (x, y, z) (inr (a, c, k, l)) = inr (x ∙ a, y c, rw (other (pair B b' q' r') n) k, le_trans z l)

      here : Noted B t₀ u b q r → (b' q' r' : ℕ) → (b' ≡ b) × (q' ≡ q) × (r' ≡ r) → Noted B t₀ u b' q' r'
      here p b' q' r' (x, y, z) = rw (x, y, z) p

      goes : (c : ℕ) → Noted B t₀ u b q r → ((b' q' r' : ℕ) → pair B b' q' r' ≢ i → Left b' q' r') → rose t₀ raised (length t₀) ≡ d + c → Spoiling B m t₀ u (d + c)
      goes c p left k = record {
        entries = length-set t i e ∙ sp.entries;
        others = λ v h. stays v h ∙ sp.others v h;
        due = λ v h. dues v h (ℕ_discrete v i);
        noted = λ b' q' r' x y z. noted b' q' r' x y z (ℕ_discrete (pair B b' q' r') i);
        count = k;
      }
        where
          noted : (b' q' r' : ℕ) → b' < layers m → q' < B.n → r' < B.n → Dec (pair B b' q' r' ≡ i) → Noted B t₀ u b' q' r'
          noted b' q' r' x y z (yes e) = here p b' q' r' (pair_one B {b = b'} {q = q'} {r = r'} {b' = b} {q' = q} {r' = r} y z hq hr e)
          noted b' q' r' x y z (no n) = elsewhere b' q' r' n (left b' q' r' n) (sp.noted b' q' r' x y z)

      -- for the first time: until now the entry is that of t₀
      first_goes : First ri ro ol ri' ro' ol' (b * B.n + q) b q r (at t i) → Spoiling B m t₀ u (d + 1)
      first_goes f =
          goes 1 (inr (f.risen.here.here, f.rows.here.here, omega (arith, before, same, up), omega (arith, before, f.olds.here))) left
          (rose-put t₀ t (length t₀) i e (omega (arith, sp.entries)) within before up ∙ ap (λ (k : ℕ). k + 1) sp.count)
        where
          unrisen : Noted B t₀ s b q r → at t i ≡ at t₀ i
          unrisen (inl p) = p.1
          unrisen (inr p) = absurd (omega (arith, p.0, f.out))

          before : at t i ≡ at t₀ i
          before = unrisen (sp.noted b q r hb hq hr)

          row_of : (b' q' r' : ℕ) → b' * B.n + q' ≡ b * B.n + q → r' ≡ r → pair B b' q' r' ≡ i
          row_of b' q' r' x y = pair_row B b' q' r' ∙ rw (x, y) (sym (pair_row B b q r))

          left : (b' q' r' : ℕ) → pair B b' q' r' ≢ i → Left b' q' r'
          left b' q' r' n =
              (inserted_away f.risen (b' * B.n + q') r' (λ x y. n (row_of b' q' r' x y)), inserted_old f.rows b' q', f.olds.less (b' * B.n + q'))

  -- again: it is noted, and has risen from t₀
  again-goes : (ri ro ol : List ℕ) → In r (at ri (b * B.n + q)) → (t₀ : List ℕ) (d : ℕ) → Spoiling B m t₀ (rising t ri ro ol) d
      → Spoiling B m t₀ (rising raised ri ro ol) (d + 0)
  again-goes ri ro ol held t₀ d sp =
      goes ri ro ol ri ro ol t₀ d sp 0 (inr (held, then.0, omega (arith, then.1, same, up), then.2)) (λ b' q' r' n. (refl, λ x. x, le_refl _))
      (omega (arith, rose-again t₀ t (length t₀) i e within then.1 up, sp.count))
    where
      risen : Noted B t₀ (rising t ri ro ol) b q r → In q (at ro b) × (at t₀ i < at t i) × (at ol (b * B.n + q) ≤ at t₀ i)
      risen (inl p) = absurd (omega (arith, p.0))
      risen (inr p) = (p.1, p.2, p.3)

      then : In q (at ro b) × (at t₀ i < at t i) × (at ol (b * B.n + q) ≤ at t₀ i)
      then = risen (sp.noted b q r hb hq hr)

  -- ---- the two events

  raised-first : (ri ro ol ri' ro' ol' : List ℕ) → First ri ro ol ri' ro' ol' (b * B.n + q) b q r (at t i)
      → Pushed B m (rising t ri ro ol) (rising raised ri' ro' ol') 1
  raised-first ri ro ol ri' ro' ol' f = record {
    entries = length-set t i e;
    grown = λ v. grows v (ℕ_discrete v i);
    others = stays;
    goes = λ t₀ d sp. first_goes ri ro ol ri' ro' ol' t₀ d sp f;
  }

  raised-again : (ri ro ol ri' ro' ol' : List ℕ) → Again ri ro ol ri' ro' ol' (b * B.n + q) r
      → Pushed B m (rising t ri ro ol) (rising raised ri' ro' ol') 0
  raised-again ri ro ol ri' ro' ol' a = rw (a.risen, a.rows, a.olds) (record {
    entries = length-set t i e;
    grown = λ v. grows v (ℕ_discrete v i);
    others = stays;
    goes = again-goes ri ro ol a.held;
  })

  -- and what is written is there
  raised-holds : e ≤ at raised i
  raised-holds = omega (arith, same)

-- A raise as the code writes it, at an index that is the position's number.
pub raise_event : (B : Board) (m : Mode) → Formed B → (b q r e : ℕ) → b < layers m → q < B.n → r < B.n
    → (t ri ro ol ri' ro' ol' : List ℕ) (i : ℕ) (first : Bool) → i ≡ pair B b q r → i < length t → at t i < e → e ≤ asked (game B m) (at t) (pair B b q r)
    → Noting ri ro ol ri' ro' ol' (b * B.n + q) b q r (at t i) first
    → Pushed B m (rising t ri ro ol) (rising (set t i e) ri' ro' ol') (from_bool first) × (e ≤ at (set t i e) (pair B b q r))
raise_event B m F b q r e hb hq hr t ri ro ol ri' ro' ol' i first place within up due note =
    rw place (go (rw place at note), raised-holds B m F b q r e hb hq hr t (rw place at within) (rw place at up) due)
  where
    go : Noting ri ro ol ri' ro' ol' (b * B.n + q) b q r (at t (pair B b q r)) first → Pushed B m (rising t ri ro ol) (rising (set t (pair B b q r) e) ri' ro' ol') (from_bool first)
    go (inl (one, f)) = rw one (raised-first B m F b q r e hb hq hr t (rw place at within) (rw place at up) due ri ro ol ri' ro' ol' f)
    go (inr (none, a)) = rw none (raised-again B m F b q r e hb hq hr t (rw place at within) (rw place at up) due ri ro ol ri' ro' ol' a)
