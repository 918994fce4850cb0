-- `checked` answers number 0 exactly for a well-formed automaton whose start is one of its states.
use mathlib.Core.Path.{◌≡◌, refl, sym, ap}
use mathlib.Core.Logic.Iff
use mathlib.Core.Logic.{◌≢◌, ◌⊎◌, inl, inr, ◌↔◌}
use mathlib.Core.Bool.{Bool, true, false, ◌&&◌, ◌||◌, not, cond, true≢false, false≢true, and-eq-true_iff}
use mathlib.Core.List.{List, [], ◌∷◌}
use Prim.Native.Nat.{ℕ, zero, suc, ◌+◌, ◌*◌, ◌/◌, ◌%◌, ◌≤◌, ◌<◌}
use native.Mathlib.Omega.{arith}
use lib.Dec.{eqb, ltb, leb}
use lib.ListN.{length, get_or}
use Rattle.std.proofs.Common.{Option, Some, None}
use borrow.Author.Tests.{ltb-true, ltb-false, leb-false, eqb-true, not-false, lt-ltb, le-ltb, lt-leb, eq-eqb, le-leb}
use Rattle.automaton.specs.Answer.{number_of, Fault, none, fault, fails, fails_at, first_fault, accepted}
use Rattle.automaton.specs.Board.{Board, Formed, from, letter, to, above, Above, outside, unsorted}
use Rattle.automaton.specs.Check.{high, states_fault, letters_fault, mode_fault, faults, automaton_fault, checked}
use Rattle.automaton.specs.Limits.{most_states, most_letters, name_of, is_unknown}
use Rattle.automaton.specs.declared.Mode.{Mode}
use Rattle.automaton.specs.declared.Refusal.TheVariants.{States, Letters, Marks, Start, Bytes, Outside, Unsorted, ModeNumber}
use Rattle.automaton.proofs.Fault.{Line, always-line, fails-line, fails_at-line, ◌then◌, end, table-line, unless-number, UpTo, fault-to, fails-to, fails_at-to, table_to}

-- ---- what each test says

pub leb_not : (a b : ℕ) → leb a b ≡ not (ltb b a)
leb_not a b = go (ltb b a) refl
  where
    go : (s : Bool) → ltb b a ≡ s → leb a b ≡ not s
    go true e = lt-leb a b (ltb-true b a e)
    go false e = le-leb a b (ltb-false b a e)

range : (n m : ℕ) → ((ltb n 1 || ltb m n) ≡ false) ↔ ((0 < n) × (n ≤ m))
range n m = (λ e. go (ltb n 1) refl e, λ h. simp (le-ltb n 1 h.0, le-ltb m n h.1))
  where
    go : (s : Bool) → ltb n 1 ≡ s → (s || ltb m n) ≡ false → (0 < n) × (n ≤ m)
    go true d e = absurd (true≢false e)
    go false d e = (ltb-false n 1 d, ltb-false m n e)

not_is : (b : Bool) (P : Type 0) → (b ≡ true) ↔ P → (not b ≡ false) ↔ P
not_is b P q = (λ e. q.0 (not-false b e), λ p. ap not (q.1 p))

inside_is : (x y z n k : ℕ) → ((ltb x n && ltb y k && ltb z n) ≡ true) ↔ ((x < n) × (y < k) × (z < n))
inside_is x y z n k = (
  λ e.
      let a = (and-eq-true_iff (ltb x n && ltb y k) (ltb z n)).0 e in
      let b = (and-eq-true_iff (ltb x n) (ltb y k)).0 a.0 in
      (ltb-true x n b.0, ltb-true y k b.1, ltb-true z n a.1),
  λ h. simp (lt-ltb x n h.0, lt-ltb y k h.1, lt-ltb z n h.2),
)

-- one number of an order by several: the next ones decide where it is the same
lexical : (x y : ℕ) (b : Bool) (Q : Type 0) → (b ≡ true) ↔ Q → ((ltb x y || (eqb x y && b)) ≡ true) ↔ ((x < y) ⊎ ((x ≡ y) × Q))
lexical x y b Q q = (λ e. go (ltb x y) (eqb x y) refl refl e, back)
  where
    go : (s t : Bool) → ltb x y ≡ s → eqb x y ≡ t → (s || (t && b)) ≡ true → (x < y) ⊎ ((x ≡ y) × Q)
    go true t d f e = inl (ltb-true x y d)
    go false true d f e = inr (eqb-true x y f, q.0 e)
    go false false d f e = absurd (false≢true e)

    back : (x < y) ⊎ ((x ≡ y) × Q) → (ltb x y || (eqb x y && b)) ≡ true
    back (inl h) = simp (lt-ltb x y h)
    back (inr h) = let e = h.0 in simp (le-ltb x y (omega arith), eq-eqb x y e, q.1 h.1)

pub above-is : (x y z x' y' z' : ℕ) → (above x y z x' y' z' ≡ true) ↔ Above x y z x' y' z'
above-is x y z x' y' z' = lexical x x' _ _ (lexical y y' _ _ (ltb-true z z', lt-ltb z z'))

-- ---- the lines of the table

pub states-line : (n : ℕ) → Line (states_fault n) ((0 < n) × (n ≤ most_states))
states-line n = fails-line _ _ States (range n most_states)

pub letters-line : (k : ℕ) → Line (letters_fault k) ((0 < k) × (k ≤ most_letters))
letters-line k = fails-line _ _ Letters (range k most_letters)

start-line : (n start : ℕ) → Line (fails (leb n start) Start) (start < n)
start-line n start = fails-line _ _ Start (leb-false n start, lt-leb n start)

bytes-line : (l : ℕ) → Line (fails (not (eqb (l % 3) 0)) Bytes) (l % 3 ≡ 0)
bytes-line l = fails-line _ _ Bytes (not_is (eqb (l % 3) 0) _ (eqb-true (l % 3) 0, eq-eqb (l % 3) 0))

module _ (n : ℕ) (marks : List ℕ) where
  abbrev Binary : Type 0
  Binary = (q : ℕ) → q < n → get_or marks q 0 ≤ 1

  binary-line : Line (fails_at Marks (high marks) n) Binary
  binary-line = fails_at-line Marks (high marks) _ n (λ a q h. ltb-false 1 (get_or marks q 0) (a q h), λ a q h. le-ltb 1 (get_or marks q 0) (a q h))

  marks_line : Line (cond (eqb (length marks) n) (fails_at Marks (high marks) n) (fault (Marks n))) ((length marks ≡ n) × Binary)
  marks_line = (λ e. go (eqb (length marks) n) refl e, λ h. simp (eq-eqb (length marks) n h.0) (binary-line.1 h.1))
    where
      go : (s : Bool) → eqb (length marks) n ≡ s → cond s (fails_at Marks (high marks) n) (fault (Marks n)) ≡ none → (length marks ≡ n) × Binary
      go true d e = (eqb-true (length marks) n d, binary-line.0 e)
      go false d e = absurd ((always-line (Marks n)).0 e)

module _ (ms : List ℕ) where
  abbrev Inside : (n k : ℕ) → ℕ → Type 0
  Inside n k i = (from ms i < n) × (letter ms i < k) × (to ms i < n)

  inside-line : (n k : ℕ) → Line (fails_at Outside (outside n k ms) (length ms / 3)) ((i : ℕ) → i * 3 + 2 < length ms → Inside n k i)
  inside-line n k = fails_at-line Outside (outside n k ms) _ (length ms / 3) (λ a i h. (one i).0 (a i (omega arith)), λ a i h. (one i).1 (a i (omega arith)))
    where
      one : (i : ℕ) → (outside n k ms i ≡ false) ↔ Inside n k i
      one i = not_is _ _ (inside_is (from ms i) (letter ms i) (to ms i) n k)

  abbrev Next : ℕ → Type 0
  Next i = Above (from ms i) (letter ms i) (to ms i) (from ms (suc i)) (letter ms (suc i)) (to ms (suc i))

  order-line : Line (fails_at Unsorted (unsorted ms) (length ms / 3)) ((i : ℕ) → i * 3 + 5 < length ms → Next i)
  order-line = fails_at-line Unsorted (unsorted ms) _ (length ms / 3) (λ a i h. (one i).0 (a (suc i) (omega arith)), back)
    where
      one : (i : ℕ) → (unsorted ms (suc i) ≡ false) ↔ Next i
      one i = not_is _ _ (above-is (from ms i) (letter ms i) (to ms i) (from ms (suc i)) (letter ms (suc i)) (to ms (suc i)))

      back : ((i : ℕ) → i * 3 + 5 < length ms → Next i) → (i : ℕ) → i < length ms / 3 → unsorted ms i ≡ false
      back a zero h = refl
      back a (suc i) h = (one i).1 (a i (omega arith))

known : (n : Option Mode) → (is_unknown n ≡ false) ↔ (n ≢ None)
known (Some m) = (λ e d. absurd (true≢false (sym (ap is_unknown d))), λ e. refl)
known None = (λ e. absurd (true≢false e), λ n. absurd (n refl))

pub mode-line : (mode : ℕ) → Line (mode_fault mode) (name_of mode ≢ None)
mode-line mode = fails-line (is_unknown (name_of mode)) _ ModeNumber (known (name_of mode))

-- ---- all of them

pub limits-line : (n k : ℕ) → Line (first_fault (states_fault n ∷ letters_fault k ∷ [])) (((0 < n) × (n ≤ most_states)) × ((0 < k) × (k ≤ most_letters)))
limits-line n k = Iff.trans (table-line (states-line n then letters-line k then end)) (λ a. (a.0, a.1.0), λ h. (h.0, (h.1, tt)))

pub automaton-line : (B : Board) (start : ℕ) → Line (automaton_fault B start) (Formed B × (start < B.n))
automaton-line B start =
    let table =
    states-line B.n then
    letters-line B.k then
    marks_line B.n B.marks then
    start-line B.n start then
    bytes-line (length B.moves) then
    inside-line B.moves B.n B.k then
    order-line B.moves then
    end in
    Iff.trans (table-line table) (
      λ a.
          let b = a.1.1 in
          let d = b.1.1 in (
            record {
              states = a.0.0;
              few = a.0.1;
              letters = a.1.0.0;
              few_letters = a.1.0.1;
              marked = b.0.0;
              binary = b.0.1;
              whole = d.0;
              inside = d.1.0;
              order = d.1.1.0;
            },
            b.1.0,
          ),
      λ h. let F = h.0 in ((F.states, F.few), ((F.letters, F.few_letters), ((F.marked, F.binary), (h.1, (F.whole, (F.inside, (F.order, tt))))))),
    )

pub sound : (B : Board) (start : ℕ) → ((checked B start).number ≡ 0) ↔ (Formed B × (start < B.n))
unfolding checked
sound B start = Iff.trans (unless-number (automaton_fault B start) accepted refl) (automaton-line B start)

-- the refusals of `check` are those from 1 to 7
pub automaton-to : (B : Board) (start : ℕ) → UpTo number_of 7 (automaton_fault B start)
automaton-to B start =
    table_to number_of 7 (faults B start) (
      fails-to number_of 7 (ltb B.n 1 || ltb most_states B.n) States (omega arith),
      (
        fails-to number_of 7 (ltb B.k 1 || ltb most_letters B.k) Letters (omega arith),
        (
          either (eqb (length B.marks) B.n) (fails_at-to number_of 7 Marks (high B.marks) B.n (λ i l. omega arith)) (fault-to number_of 7 (Marks B.n) (omega arith)),
          (
            fails-to number_of 7 (leb B.n start) Start (omega arith),
            (
              fails-to number_of 7 (not (eqb (length B.moves % 3) 0)) Bytes (omega arith),
              (
                fails_at-to number_of 7 Outside (outside B.n B.k B.moves) (length B.moves / 3) (λ i l. omega arith),
                (
                  fails_at-to number_of 7 Unsorted (unsorted B.moves) (length B.moves / 3) (λ i l. omega arith),
                  tt,
                ),
              ),
            ),
          ),
        ),
      ),
    )
  where
    either : (b : Bool) {f g : Fault} → UpTo number_of 7 f → UpTo number_of 7 g → UpTo number_of 7 (cond b f g)
    either true p q = p
    either false p q = q
