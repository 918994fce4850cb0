-- Words as they are drawn: the accepting states mark by mark, and the moves one by one.
use Rattle.std.proofs.Common.{[], drop, get_or-take, get_or-drop, ◌≡◌, refl, sym, ap, ◌∙◌, ◌≢◌, ◌⊎◌, inl, inr, List, ℕ, zero, suc, ◌+◌, ◌*◌, ◌/◌, ◌%◌, ◌≤◌, ◌<◌, eqb, length, get_or, replicate, eq-eqb, ne_eqb, arith}
use Rattle.std.specs.Simd.{first_chunks}
use native.Mathlib.Decide.{ℕ_discrete}
use lib.Arith.{digits_div, digits_mod}
use Rattle.games.specs.Game.{at}
use Rattle.words.specs.Word.{dig, In, With}
use Rattle.words.proofs.Sets.{in_or-out, empty, with_cases, with_old}
use Rattle.automaton.specs.Board.{Board, from, letter, to, Formed}
use Rattle.simulation.specs.Rules.{bit}
use Rattle.halves.specs.Drawn.{Into, Onto, Empty, Inserted}

-- a list of zeros has no member in any word
pub zeros-empty : (n : ℕ) → Empty (replicate n 0)
zeros-empty zero i = refl
zeros-empty (suc n) zero = refl
zeros-empty (suc n) (suc i) = zeros-empty n i

-- ---- the accepting states

-- the word holds the states below q with mark 1, and no other number
pub record Seen (marks : List ℕ) (acc q : ℕ) : Type 0 where
  pub each : (x : ℕ) → x < q → dig acc x ≡ bit (eqb (get_or marks x 0) 1)
  pub states : (x : ℕ) → In x acc → x < q

pub seen-begun : (marks : List ℕ) → Seen marks 0 0
seen-begun marks = record { each = λ x l. absurd (omega arith); states = λ x i. absurd (empty x i) }

module _ (marks : List ℕ) (acc q : ℕ) (s : Seen marks acc q) where
  pub seen_one : (r : ℕ) → get_or marks q 0 ≡ 1 → With acc q r → Seen marks r (q + 1)
  seen_one r e w = record {
    each = λ x l. each x l (ℕ_discrete x q);
    states = λ x i. states x (with_cases w x i);
  }
    where
      each : (x : ℕ) → x < q + 1 → Dec (x ≡ q) → dig r x ≡ bit (eqb (get_or marks x 0) 1)
      each x l (yes d) = rw (d, eq-eqb (get_or marks q 0) 1 e) w.here
      each x l (no n) = w.other x n ∙ s.each x (omega arith)

      states : (x : ℕ) → In x acc ⊎ (x ≡ q) → x < q + 1
      states x (inl i) = omega (arith, s.states x i)
      states x (inr e) = omega arith

  pub seen_none : get_or marks q 0 ≢ 1 → Seen marks acc (q + 1)
  seen_none n = record {
    each = λ x l. each x l (ℕ_discrete x q) (in_or-out acc x);
    states = λ x i. omega (arith, s.states x i);
  }
    where
      each : (x : ℕ) → x < q + 1 → Dec (x ≡ q) → In x acc ⊎ (dig acc x ≡ 0) → dig acc x ≡ bit (eqb (get_or marks x 0) 1)
      each x l (yes d) (inl i) = absurd (omega (arith, s.states x i))
      each x l (yes d) (inr i) = i ∙ sym (rw (d, ne_eqb (get_or marks q 0) 1 n))
      each x l (no d) i = s.each x (omega arith)

-- ---- the moves

-- each of the first i moves has put its member into its word, and nothing else is in the words
pub record Drawn (key member : ℕ → ℕ) (i : ℕ) (sets : List ℕ) : Type 0 where
  pub held : (j : ℕ) → j < i → In (member j) (at sets (key j))
  pub move : (w x : ℕ) → In x (at sets w) → (j : ℕ) × (j < i) × (key j ≡ w) × (member j ≡ x)

pub drawn-none : (key member : ℕ → ℕ) (sets : List ℕ) → Empty sets → Drawn key member 0 sets
drawn-none key member sets e = record {
  held = λ j l. absurd (omega arith);
  move = λ w x i. absurd (empty x (rw (e w) at i));
}

pub drawn-more : (key member : ℕ → ℕ) (i w x : ℕ) (s t : List ℕ) → w ≡ key i → x ≡ member i → Drawn key member i s → Inserted s w x t → Drawn key member (i + 1) t
drawn-more key member i w₀ x₀ s t e₀ f₀ d b = record {
  held = λ j l. held j l (ℕ_discrete j i);
  move = λ w x h. move w x h (ℕ_discrete w (key i));
}
  where
    a : Inserted s (key i) (member i) t
    a = rw (← e₀, ← f₀) b

    kept : (w x : ℕ) → Dec (w ≡ key i) → In x (at s w) → In x (at t w)
    kept w x (yes e) h = rw e (with_old a.here x (rw e at h))
    kept w x (no n) h = rw (a.other w n) h

    held : (j : ℕ) → j < i + 1 → Dec (j ≡ i) → In (member j) (at t (key j))
    held j l (yes e) = rw e a.here.here
    held j l (no n) = kept (key j) (member j) (ℕ_discrete (key j) (key i)) (d.held j (omega arith))

    earlier : (w x : ℕ) → In x (at s w) → (j : ℕ) × (j < i + 1) × (key j ≡ w) × (member j ≡ x)
    earlier w x h = let (j, l, e, f) = d.move w x h in (j, omega arith, e, f)

    new : (w x : ℕ) → w ≡ key i → In x (at s (key i)) ⊎ (x ≡ member i) → (j : ℕ) × (j < i + 1) × (key j ≡ w) × (member j ≡ x)
    new w x e (inl h) = earlier w x (rw e h)
    new w x e (inr f) = (i, omega arith, sym e, sym f)

    move : (w x : ℕ) → In x (at t w) → Dec (w ≡ key i) → (j : ℕ) × (j < i + 1) × (key j ≡ w) × (member j ≡ x)
    move w x h (yes e) = new w x e (with_cases a.here x (rw e at h))
    move w x h (no n) = earlier w x (rw (← a.other w n) h)

-- ---- all of them

-- of each of the first i moves, `from` is put into the word of `to` and the letter
abbrev pub DrawnInto : (k : ℕ) (moves : List ℕ) (i : ℕ) (sets : List ℕ) → Type 0
DrawnInto k ms i sets = Drawn (λ j. to ms j * k + letter ms j) (from ms) i sets

-- of each of the first i moves, `to` is put into the word of `from` and the letter
abbrev pub DrawnOnto : (k : ℕ) (moves : List ℕ) (i : ℕ) (sets : List ℕ) → Type 0
DrawnOnto k ms i sets = Drawn (λ j. from ms j * k + letter ms j) (to ms) i sets

-- the moves cut into threes: byte j of the one numbered i
pub chunk-at : (n i j v : ℕ) (ms : List ℕ) → i < n → j < 3 → v ≡ i * 3 + j → get_or (get_or (first_chunks 3 n ms) i []) j 0 ≡ get_or ms v 0
chunk-at zero i j v ms h l e = absurd (omega arith)
chunk-at (suc n) zero j v ms h l e = get_or-take 3 ms j 0 l ∙ ap (λ (v : ℕ). get_or ms v 0) (omega arith)
chunk-at (suc n) (suc i) j v ms h l e = chunk-at n i j (i * 3 + j) (drop 3 ms) (omega arith) l refl ∙ get_or-drop 3 ms (i * 3 + j) 0 ∙ ap (λ (v : ℕ). get_or ms v 0) (omega arith)

-- the digits of a word's number
two_digits : {k a b c d : ℕ} → b < k → d < k → a * k + b ≡ c * k + d → (a ≡ c) × (b ≡ d)
two_digits {k} {a} {b} {c} {d} l h e = (sym (digits_div a l) ∙ ap (λ (v : ℕ). v / k) e ∙ digits_div c h, sym (digits_mod a l) ∙ ap (λ (v : ℕ). v % k) e ∙ digits_mod c h)

module _ (B : Board) (F : Formed B) (sets : List ℕ) (room : B.n * B.k ≤ length sets) where
  pub into_drawn : DrawnInto B.k B.moves (length B.moves / 3) sets → Into B sets
  into_drawn d = record {
    room = room;
    move = λ q a r l h i.
        let (j, b, e, f) = d.move (r * B.k + a) q i in
        let w : j * 3 + 2 < length B.moves = omega arith in
        let t = two_digits (F.inside j w).1 h e in
        (j, w, f, t.1, t.0);
    held = λ q a r (i, l, x, y, z). rw (← x, ← y, ← z) (d.held i (omega arith));
  }

  pub onto-drawn : DrawnOnto B.k B.moves (length B.moves / 3) sets → Onto B sets
  onto-drawn d = record {
    room = room;
    move = λ q a r l h i.
        let (j, b, e, f) = d.move (q * B.k + a) r i in
        let w : j * 3 + 2 < length B.moves = omega arith in
        let t = two_digits (F.inside j w).1 h e in
        (j, w, t.0, t.1, f);
    held = λ q a r (i, l, x, y, z). rw (← x, ← y, ← z) (d.held i (omega arith));
  }
