-- Words as they are taken away: the rows of a set one by one, and the rows of both sets.
use Rattle.std.proofs.Common.{◌≡◌, sym, subst, ◌∙◌, ◌⊎◌, inl, inr, List, ℕ, zero, suc, ◌+◌, ◌*◌, ◌≤◌, ◌<◌, zero-mul, one-mul, arith, length, set, get_or-set_same, get_or-set_other}
use native.Mathlib.Decide.{dec_le, ℕ_discrete}
use Rattle.games.specs.Game.{at}
use Rattle.words.specs.Word.{dig, In, Pop, Below, Met}
use Rattle.words.proofs.Digits.{dig-zero}
use Rattle.words.proofs.Sets.{empty, pop_cases, pop_sub, met_in, met_right}
use Rattle.automaton.specs.declared.Mode.{Mode}
use Rattle.automaton.specs.Board.{Board}
use Rattle.simulation.proofs.Limits.{layers-most}
use Rattle.halves.specs.Rising.{Blank}
use Rattle.sweep.specs.Poised.{Covered, Emptied}

-- a word that is empty stays so
pub emptied_zero : (s t : List ℕ) → Emptied s t → (i : ℕ) → at s i ≡ 0 → at t i ≡ 0
emptied_zero s t e i z = go (e i)
  where
    go : (at t i ≡ at s i) ⊎ (at t i ≡ 0) → at t i ≡ 0
    go (inl k) = k ∙ z
    go (inr k) = k

-- a word is made empty, and the others are as they were
pub emptied_at : (s : List ℕ) (i : ℕ) → i < length s → Emptied s (set s i 0)
emptied_at s i l j = go (ℕ_discrete j i)
  where
    go : Dec (j ≡ i) → (at (set s i 0) j ≡ at s j) ⊎ (at (set s i 0) j ≡ 0)
    go (yes e) = inr (rw e (get_or-set_same s i 0 0 l))
    go (no n) = inl (get_or-set_other s i j 0 0 n)

-- first from s to t, and then to u
pub emptied_on : (s t u : List ℕ) → Emptied s t → Emptied t u → Emptied s u
emptied_on s t u e f i = go (e i) (f i)
  where
    go : (at t i ≡ at s i) ⊎ (at t i ≡ 0) → (at u i ≡ at t i) ⊎ (at u i ≡ 0) → (at u i ≡ at s i) ⊎ (at u i ≡ 0)
    go (inl k) (inl h) = inl (h ∙ k)
    go (inr k) (inl h) = inr (h ∙ k)
    go k (inr h) = inr h

-- ---- the members of a set below n, one by one

-- the set m is of numbers below n, and each such member of the whole set is in m or has been done
pub record Visit (n set m : ℕ) (Done : ℕ → Type 0) : Type 0 where
  pub within : (q : ℕ) → In q m → q < n
  pub each : (q : ℕ) → q < n → In q set → In q m ⊎ Done q

-- a set that is cut down to the numbers below n has only such
pub cut_below : {n set all m : ℕ} → Below n all → Met set all m → (q : ℕ) → In q m → q < n
cut_below {n} b h q i = go (dec_le n q)
  where
    go : Dec (n ≤ q) → q < n
    go (yes l) = absurd (omega (arith, b.none q l, met_right h q i))
    go (no l) = omega arith

-- before the first, m is what the set has below n
pub visit-begun : {n set all m : ℕ} {Done : ℕ → Type 0} → Below n all → Met set all m → Visit n set m Done
visit-begun b h = record { within = cut_below b h; each = λ q l i. inl (met_in h q i (b.each q l)) }

-- member j is taken from m and done, and what was done stays so
pub visit-more : {n set m j r : ℕ} {Done Done' : ℕ → Type 0} → Pop m j r → ((q : ℕ) → Done q → Done' q) → Done' j → Visit n set m Done → Visit n set r Done'
visit-more {n} {set} {m} {j} {r} {Done} {Done'} p kept now v = record {
  within = λ q i. v.within q (pop_sub p q i);
  each = λ q l i. each q (v.each q l i);
}
  where
    popped : (q : ℕ) → (q ≡ j) ⊎ In q r → In q r ⊎ Done' q
    popped q (inl e) = inr (subst Done' (sym e) now)
    popped q (inr i) = inl i

    each : (q : ℕ) → In q m ⊎ Done q → In q r ⊎ Done' q
    each q (inl i) = popped q (pop_cases p q i)
    each q (inr d) = inr (kept q d)

-- when m is empty, all are done
pub visit-done : {n set m : ℕ} {Done : ℕ → Type 0} → m ≡ 0 → Visit n set m Done → (q : ℕ) → q < n → In q set → Done q
visit-done {n} {set} {m} {Done} e v q l i = go (v.each q l i)
  where
    go : In q m ⊎ Done q → Done q
    go (inl k) = absurd (empty q (rw e at k))
    go (inr k) = k

-- ---- the rows of both sets

-- s before, t after the rows of b = 0 and u after those of b = 1
pub blanked : (B : Board) (m : Mode) (s t u rows : List ℕ) → Covered B m s rows
    → Emptied s t → ((q : ℕ) → q < B.n → In q (at rows 0) → at t (0 + q) ≡ 0)
    → Emptied t u → ((q : ℕ) → q < B.n → In q (at rows 1) → at u (B.n + q) ≡ 0)
    → Blank B m u
blanked B m s t u rows covered e first f second b q r hb hq hr = go (covered b q r hb hq hr)
  where
    row : (d : ℕ) → d < 2 → In q (at rows d) → at u (d * B.n + q) ≡ 0
    row zero l i = rw (zero-mul B.n) (emptied_zero t u f (0 + q) (first q hq i))
    row (suc zero) l i = rw (one-mul B.n) (second q hq i)
    row (suc (suc d)) l i = absurd (omega arith)

    none : at u (b * B.n + q) ≡ 0 → dig (at u (b * B.n + q)) r ≡ 0
    none z = rw z (dig-zero r)

    left : dig (at s (b * B.n + q)) r ≡ 0 → (at u (b * B.n + q) ≡ at s (b * B.n + q)) ⊎ (at u (b * B.n + q) ≡ 0) → dig (at u (b * B.n + q)) r ≡ 0
    left z (inl k) = rw k z
    left z (inr k) = none k

    go : (dig (at s (b * B.n + q)) r ≡ 0) ⊎ In q (at rows b) → dig (at u (b * B.n + q)) r ≡ 0
    go (inl z) = left z (emptied_on s t u e f (b * B.n + q))
    go (inr i) = none (row b (omega (arith, layers-most m)) i)
