-- The places where the keys begin give the stretches of `arrows` and `targets`.
use mathlib.Core.Path.{◌≡◌, refl, sym, ap, ◌∙◌, subst}
use mathlib.Core.Bool.{Bool, true, false, ◌&&◌}
use mathlib.Core.List.{List}
use Prim.Native.Nat.{ℕ, zero, suc, ◌+◌, ◌*◌, ◌-◌, ◌/◌, ◌%◌, ◌≤◌, ◌<◌}
use native.Mathlib.Nat.{le_refl, le_trans, suc-mul, div-lt_iff_lt-mul}
use native.Mathlib.Omega.{arith}
use native.Mathlib.Decide.{dec_le}
use lib.Arith.{digits_lt, digits_div, digits_mod}
use lib.Dec.{eqb, leb}
use lib.ListN.{length, get_or, set}
use lib.Seq.{get_or-set_same, get_or-set_other}
use borrow.Author.Count.{below_more}
use borrow.Author.Tests.{leb-true, leb-false, eqb-true, eq-eqb}
use Rattle.automaton.specs.Board.{Board, from, letter, Formed}
use Rattle.automaton.specs.First.{first}
use Rattle.automaton.proofs.First.{Lowest, first-lowest}
use Rattle.simulation.proofs.Ranges.{Leaving, Answering}
use Rattle.asks.specs.Index.{key, Ascending, Indexed}
use Rattle.asks.proofs.Bounds.{row_within}

-- ---- the keys

-- of any two moves, the later has no lesser key
key_mono : (k : ℕ) (ms : List ℕ) → Ascending k ms → (i j : ℕ) → i ≤ j → j * 3 + 2 < length ms → key k ms i ≤ key k ms j
key_mono k ms A i zero h l = let e : i ≡ 0 = omega arith in rw e (le_refl (key k ms 0))
key_mono k ms A i (suc j) h l = go (dec_le i j) (λ p. key_mono k ms A i j p (omega arith))
  where
    go : Dec (i ≤ j) → (i ≤ j → key k ms i ≤ key k ms j) → key k ms i ≤ key k ms (suc j)
    go (yes p) rec = le_trans (rec p) (A j l)
    go (no p) rec = let e : i ≡ suc j = omega arith in rw e (le_refl (key k ms (suc j)))

-- ---- the places, as they are found

-- p is the first move with a key of x or more, and the number of moves if there is none
pub record Begins (k : ℕ) (ms : List ℕ) (x p : ℕ) : Type 0 where
  pub inside : p * 3 ≤ length ms
  pub under : (i : ℕ) → i < p → key k ms i < x
  pub over : (i : ℕ) → p ≤ i → i * 3 + 2 < length ms → x ≤ key k ms i

-- a search from i on finds it where no move before i has such a key
pub begins_found : (k : ℕ) (ms : List ℕ) → Ascending k ms → (x i : ℕ) → i ≤ length ms / 3 → ((j : ℕ) → j < i → key k ms j < x)
    → Begins k ms x (first (λ j. leb x (key k ms j)) i (length ms / 3 - i))
begins_found k ms A x i h before =
    let r = first-lowest (λ j. leb x (key k ms j)) i (length ms / 3 - i) in
    record {
      inside = omega (arith, r.most);
      under = λ j l. go r j l (dec_le i j);
      over = λ j l m. le_trans (leb-true x _ (r.here (omega arith))) (key_mono k ms A _ j l m);
    }
  where
    go : {w : ℕ} → Lowest (λ j. leb x (key k ms j)) i (length ms / 3 - i) w → (j : ℕ) → j < w → Dec (i ≤ j) → key k ms j < x
    go r j l (yes p) = leb-false x _ (r.before j p l)
    go r j l (no p) = before j (omega arith)

-- one more place is written
pub begins_stored : (k : ℕ) (ms begins : List ℕ) (x p : ℕ) → x < length begins → ((y : ℕ) → y < x → Begins k ms y (get_or begins y 0)) → Begins k ms x p
    → (y : ℕ) → y < x + 1 → Begins k ms y (get_or (set begins x p) y 0)
begins_stored k ms begins x p h all here =
    below_more (λ y. Begins k ms y (get_or (set begins x p) y 0)) x
    (λ y b. subst (Begins k ms y) (sym (get_or-set_other begins x y p 0 (λ e. omega arith))) (all y b))
    (subst (Begins k ms x) (sym (get_or-set_same begins x p 0 h)) here)

-- ---- the places, as they are used

-- the moves with keys from x up to y are the c moves from lo on
record Between (k : ℕ) (ms : List ℕ) (x y lo c : ℕ) : Type 0 where
  inside : (lo + c) * 3 ≤ length ms
  before : (i : ℕ) → i < lo → key k ms i < x
  within : (i : ℕ) → lo ≤ i → i < lo + c → (i * 3 + 2 < length ms) × (x ≤ key k ms i) × (key k ms i < y)
  after : (i : ℕ) → lo + c ≤ i → i * 3 + 2 < length ms → y ≤ key k ms i

module _ (n k : ℕ) (ms begins : List ℕ) (I : Indexed n k ms begins) where
  -- the places do not fall
  begins_mono : (x y : ℕ) → x ≤ y → y ≤ n * k → get_or begins x 0 ≤ get_or begins y 0
  begins_mono x y h l = go (dec_le (get_or begins x 0) (get_or begins y 0))
    where
      go : Dec (get_or begins x 0 ≤ get_or begins y 0) → get_or begins x 0 ≤ get_or begins y 0
      go (yes p) = p
      go (no p) =
          absurd (omega (arith, I.under x (omega arith) (get_or begins y 0) (omega arith), I.over y l (get_or begins y 0) (omega arith) (omega (arith, I.inside x (omega arith)))))

  between : (x y : ℕ) → x ≤ y → y ≤ n * k → Between k ms x y (get_or begins x 0) (get_or begins y 0 - get_or begins x 0)
  between x y h l =
      let m = begins_mono x y h l in
      let low : x ≤ n * k = omega arith in
      record {
        inside = omega (arith, I.inside y l);
        before = λ i b. I.under x low i b;
        within = λ i b c. let s : i * 3 + 2 < length ms = omega (arith, I.inside y l) in (s, I.over x low i b s, I.under y l i (omega arith));
        after = λ i b s. I.over y l i (omega arith) s;
      }

-- ---- the stretches

module _ (B : Board) (F : Formed B) (begins : List ℕ) (I : Indexed B.n B.k B.moves begins) where
  module _ (q : ℕ) (h : q < B.n) where
    last : q * B.k + B.k ≤ B.n * B.k
    last = row_within B.n B.k q h

    pub leaving_inside : get_or begins (q * B.k + B.k) 0 * 3 ≤ length B.moves
    leaving_inside = I.inside (q * B.k + B.k) last

    pub leaving_order : get_or begins (q * B.k) 0 ≤ get_or begins (q * B.k + B.k) 0
    leaving_order = begins_mono B.n B.k B.moves begins I (q * B.k) (q * B.k + B.k) (omega arith) last

    pub leaving : Leaving B q (get_or begins (q * B.k) 0) (get_or begins (q * B.k + B.k) 0 - get_or begins (q * B.k) 0)
    leaving =
        let s = between B.n B.k B.moves begins I (q * B.k) (q * B.k + B.k) (omega arith) last in
        record {
          inside = s.inside;
          before = λ i b e. omega (arith, s.before i b, row i e);
          within = λ i b c. let (m, u, v) = s.within i b c in same i m u v;
          after = λ i b m e. omega (arith, s.after i b m, row i e, (F.inside i m).1);
        }
      where
        row : (i : ℕ) → from B.moves i ≡ q → key B.k B.moves i ≡ q * B.k + letter B.moves i
        row i e = ap (λ (z : ℕ). z * B.k + letter B.moves i) e

        same : (i : ℕ) → i * 3 + 2 < length B.moves → q * B.k ≤ key B.k B.moves i → key B.k B.moves i < q * B.k + B.k → from B.moves i ≡ q
        same i m u v =
            let d = digits_div (from B.moves i) (F.inside i m).1 in
            let below : key B.k B.moves i / B.k < suc q = (div-lt_iff_lt-mul F.letters).1 (omega (arith, suc-mul q B.k)) in
            let not-less : ¬ (key B.k B.moves i / B.k < q) = λ w. omega (arith, (div-lt_iff_lt-mul F.letters).0 w) in
            omega arith

    module _ (a : ℕ) (l : a < B.k) where
      next : q * B.k + a + 1 ≤ B.n * B.k
      next = omega (arith, digits_lt h l)

      pub answering-inside : get_or begins (q * B.k + a + 1) 0 * 3 ≤ length B.moves
      answering-inside = I.inside (q * B.k + a + 1) next

      pub answering-order : get_or begins (q * B.k + a) 0 ≤ get_or begins (q * B.k + a + 1) 0
      answering-order = begins_mono B.n B.k B.moves begins I (q * B.k + a) (q * B.k + a + 1) (omega arith) next

      pub answering : Answering B q a (get_or begins (q * B.k + a) 0) (get_or begins (q * B.k + a + 1) 0 - get_or begins (q * B.k + a) 0)
      answering =
          let s = between B.n B.k B.moves begins I (q * B.k + a) (q * B.k + a + 1) (omega arith) next in
          record {
            inside = s.inside;
            before = λ i b. differs i (λ e. omega (arith, s.before i b));
            within = λ i b c. let (m, u, v) = s.within i b c in same i m (omega arith);
            after = λ i b m. differs i (λ e. omega (arith, s.after i b m));
          }
        where
          differs : (i : ℕ) → ¬ (key B.k B.moves i ≡ q * B.k + a) → (eqb (from B.moves i) q && eqb (letter B.moves i) a) ≡ false
          differs i n = go (eqb (from B.moves i) q) (eqb (letter B.moves i) a) refl refl
            where
              go : (s t : Bool) → eqb (from B.moves i) q ≡ s → eqb (letter B.moves i) a ≡ t → (s && t) ≡ false
              go true true e d = absurd (n (rw (eqb-true (from B.moves i) q e, eqb-true (letter B.moves i) a d)))
              go true false e d = refl
              go false t e d = refl

          same : (i : ℕ) → i * 3 + 2 < length B.moves → key B.k B.moves i ≡ q * B.k + a → (eqb (from B.moves i) q && eqb (letter B.moves i) a) ≡ true
          same i m e =
              let t = (F.inside i m).1 in
              let f : from B.moves i ≡ q = sym (digits_div (from B.moves i) t) ∙ ap (λ (z : ℕ). z / B.k) e ∙ digits_div q l in
              let g : letter B.moves i ≡ a = sym (digits_mod (from B.moves i) t) ∙ ap (λ (z : ℕ). z % B.k) e ∙ digits_mod q l in
              rw (eq-eqb (from B.moves i) q f, eq-eqb (letter B.moves i) a g)
