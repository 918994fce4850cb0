-- Loops whose turns are parts of the half: through the members of a set, and through numbers. What is left, and what holds where it is done.
use Rattle.std.proofs.Common.{◌≡◌, ◌⊎◌, inl, inr, List, ℕ, ◌+◌, ◌<◌, arith}
use native.Mathlib.Decide.{dec_lt}
use Rattle.words.specs.Word.{In, Pop}
use Rattle.words.proofs.Sets.{empty, pop_cases, pop_sub}
use Rattle.automaton.specs.declared.Mode.{Mode}
use Rattle.automaton.specs.Board.{Board}
use Rattle.halves.specs.Rising.{Rising, Pushed}
use Rattle.spoilers.proofs.Parts.{Sized, sized_none, sized_then, pushed_none, pushed_then}

-- from s₀ to s, with c first raises; Done is what holds for a member that is no longer in m
pub record Through (B : Board) (m : Mode) (all : ℕ) (Done : (t : List ℕ) → ℕ → Type 0) (s₀ s : Rising) (c left : ℕ) : Type 0 where
  pub pushed : Pushed B m s₀ s c
  pub sized : Sized s₀ s
  pub sub : (x : ℕ) → In x left → In x all
  pub over : (x : ℕ) → In x all → In x left ⊎ Done s.table x

module _ {B : Board} {m : Mode} {Done : (t : List ℕ) → ℕ → Type 0} where
  module _ {all : ℕ} {s₀ s : Rising} {c left : ℕ} (t : Through B m all Done s₀ s c left) where
    pub through_more : {u : Rising} {d x rest : ℕ} → Pop left x rest → Pushed B m s u d → Sized s u → Done u.table x
        → ((y : ℕ) → Done s.table y → Done u.table y) → Through B m all Done s₀ u (c + d) rest
    through_more {u} {d} {x} {rest} p step size done stays = record {
      pushed = pushed_then B m t.pushed step;
      sized = sized_then t.sized size;
      sub = λ y i. t.sub y (pop_sub p y i);
      over = λ y i. over y (t.over y i);
    }
      where
        away : (y : ℕ) → (y ≡ x) ⊎ In y rest → In y rest ⊎ Done u.table y
        away y (inl e) = inr (rw e done)
        away y (inr i) = inl i

        over : (y : ℕ) → In y left ⊎ Done s.table y → In y rest ⊎ Done u.table y
        over y (inl i) = away y (pop_cases p y i)
        over y (inr e) = inr (stays y e)

    pub through_end : left ≡ 0 → (x : ℕ) → In x all → Done s.table x
    through_end e x i = go (t.over x i)
      where
        go : In x left ⊎ Done s.table x → Done s.table x
        go (inl k) = absurd (empty x (rw e at k))
        go (inr k) = k

-- ---- a loop through the numbers from 0 on

-- from s₀ to s, with c first raises; Done holds for the numbers below i
pub record Upto (B : Board) (m : Mode) (Done : (t : List ℕ) → ℕ → Type 0) (s₀ s : Rising) (c i : ℕ) : Type 0 where
  pub pushed : Pushed B m s₀ s c
  pub sized : Sized s₀ s
  pub each : (j : ℕ) → j < i → Done s.table j

module _ {B : Board} {m : Mode} {Done : (t : List ℕ) → ℕ → Type 0} where
  pub upto_start : (s : Rising) → Upto B m Done s s 0 0
  upto_start s = record { pushed = pushed_none B m s; sized = sized_none s; each = λ j h. absurd (omega arith) }

  pub upto_more : {s₀ s u : Rising} {c d i : ℕ} → Upto B m Done s₀ s c i → Pushed B m s u d → Sized s u → Done u.table i
      → ((j : ℕ) → Done s.table j → Done u.table j) → Upto B m Done s₀ u (c + d) (i + 1)
  upto_more {s₀} {s} {u} {c} {d} {i} t step size done stays = record {
    pushed = pushed_then B m t.pushed step;
    sized = sized_then t.sized size;
    each = λ j h. each j h (dec_lt j i);
  }
    where
      each : (j : ℕ) → j < i + 1 → Dec (j < i) → Done u.table j
      each j h (yes l) = stays j (t.each j l)
      each j h (no l) = let e : j ≡ i = omega arith in rw e done
