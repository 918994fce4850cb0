-- The lists of targets and arrows of a state tell exactly its moves, and stay inside the board.
use mathlib.Core.Path.{◌≡◌, refl, sym, ap, ◌∙◌}
use mathlib.Core.Logic.{◌⊎◌, inl, inr, ◌↔◌}
use mathlib.Core.Bool.{Bool, true, false, ◌&&◌}
use mathlib.Core.List.Memᴰ
use mathlib.Core.List.{List, [], ◌∷◌, ◌++◌, Memᴰ}
use Prim.Native.Nat.{ℕ, zero, suc, ◌+◌, ◌*◌, ◌<◌}
use native.Mathlib.Omega.{arith}
use lib.Dec.{eqb}
use lib.ListN.{length, drop}
use lib.Seq.{drop-cons}
use borrow.Author.Tests.{eqb-true, eq-eqb}
use Rattle.automaton.specs.Board.{Board, from, letter, to, Formed}
use Rattle.simulation.specs.Moves.{only, gather, targets, Arrow, arrows, Moves}

-- ---- what is gathered

-- move i of the list after its first move is move i + 1 of the list
pub move-past : (x y z : ℕ) (ms : List ℕ) (R : ℕ → ℕ → ℕ → Type 0) (i : ℕ)
    → R (from (x ∷ y ∷ z ∷ ms) (suc i)) (letter (x ∷ y ∷ z ∷ ms) (suc i)) (to (x ∷ y ∷ z ∷ ms) (suc i)) → R (from ms i) (letter ms i) (to ms i)
move-past x y z ms R i r = rw (past 1, past 2, past₀) at r
  where
    past : (j : ℕ) → suc i * 3 + j ≡ suc (suc (suc (i * 3 + j)))
    past j = omega arith

    past₀ : suc i * 3 ≡ suc (suc (suc (i * 3)))
    past₀ = omega arith

-- what f makes of move i
abbrev pub made : {X : Type 0} → (f : ℕ → ℕ → ℕ → List X) → (moves : List ℕ) → ℕ → List X
made f ms i = f (from ms i) (letter ms i) (to ms i)

module _ {X : Type 0} (f : ℕ → ℕ → ℕ → List X) where
  pub made_suc : (x y z : ℕ) (ms : List ℕ) (i : ℕ) → made f (x ∷ y ∷ z ∷ ms) (suc i) ≡ made f ms i
  made_suc x y z ms i = move-past x y z ms (λ u v w. made f (x ∷ y ∷ z ∷ ms) (suc i) ≡ f u v w) i refl

  -- what is gathered is made of some move, and what is made of a move is gathered
  gathered : {w : X} (ms : List ℕ) → Memᴰ w (gather f ms) → (i : ℕ) × (i * 3 + 2 < length ms) × Memᴰ w (made f ms i)
  gathered [] m = absurd (Memᴰ.not-nil m)
  gathered (x ∷ []) m = absurd (Memᴰ.not-nil m)
  gathered (x ∷ y ∷ []) m = absurd (Memᴰ.not-nil m)
  gathered {w} (x ∷ y ∷ z ∷ ms) m = go (Memᴰ.append_cases (f x y z) m) (λ n. gathered ms n)
    where
      go : Memᴰ w (f x y z) ⊎ Memᴰ w (gather f ms) → (Memᴰ w (gather f ms) → (i : ℕ) × (i * 3 + 2 < length ms) × Memᴰ w (made f ms i))
          → (i : ℕ) × (i * 3 + 2 < length (x ∷ y ∷ z ∷ ms)) × Memᴰ w (made f (x ∷ y ∷ z ∷ ms) i)
      go (inl a) rec = (0, omega arith, a)
      go (inr b) rec = let (i, l, n) = rec b in (suc i, omega arith, rw (made_suc x y z ms i) n)

  gather_in : {w : X} (ms : List ℕ) (i : ℕ) → i * 3 + 2 < length ms → Memᴰ w (made f ms i) → Memᴰ w (gather f ms)
  gather_in [] i h m = absurd (omega arith)
  gather_in (x ∷ []) i h m = absurd (omega arith)
  gather_in (x ∷ y ∷ []) i h m = absurd (omega arith)
  gather_in (x ∷ y ∷ z ∷ ms) zero h m = Memᴰ.append_left (gather f ms) m
  gather_in (x ∷ y ∷ z ∷ ms) (suc i) h m = Memᴰ.append_right (f x y z) (gather_in ms i (omega arith) (rw (made_suc x y z ms i) at m))

-- what is gathered from move i on: what f makes of it, and what is gathered from the next one on
pub gather-from : {X : Type 0} (f : ℕ → ℕ → ℕ → List X) (ms : List ℕ) (i : ℕ) → i * 3 + 2 < length ms
    → gather f (drop (i * 3) ms) ≡ made f ms i ++ gather f (drop ((i + 1) * 3) ms)
gather-from f ms i h =
    let one : suc (i * 3) ≡ i * 3 + 1 = omega arith in
    let two : suc (i * 3 + 1) ≡ i * 3 + 2 = omega arith in
    let next : suc (i * 3 + 2) ≡ (i + 1) * 3 = omega arith in
    let from_on : (j l : ℕ) → j ≡ l → drop j ms ≡ drop l ms = λ j l e. ap (λ (n : ℕ). drop n ms) e in
    ap (gather f)
    (drop-cons ms (i * 3) 0 (omega arith)
    ∙ ap (λ (t : List ℕ). from ms i ∷ t) (from_on (suc (i * 3)) (i * 3 + 1) one ∙ drop-cons ms (i * 3 + 1) 0 (omega arith))
    ∙ ap (λ (t : List ℕ). from ms i ∷ letter ms i ∷ t) (from_on (suc (i * 3 + 1)) (i * 3 + 2) two ∙ drop-cons ms (i * 3 + 2) 0 h)
    ∙ ap (λ (t : List ℕ). from ms i ∷ letter ms i ∷ to ms i ∷ t) (from_on (suc (i * 3 + 2)) ((i + 1) * 3) next))

-- ---- exactly the moves

both : (s t : Bool) → s ≡ true → t ≡ true → (s && t) ≡ true
both s t e d = rw (e, d)

only-both : (s t : Bool) {r w : ℕ} → Memᴰ w (only (s && t) r) → (s ≡ true) × (t ≡ true) × (w ≡ r)
only-both true true m = (refl, refl, Memᴰ.eq_of_singleton m)
only-both true false m = absurd (Memᴰ.not-nil m)
only-both false t m = absurd (Memᴰ.not-nil m)

only-is : (s : Bool) {x w : Arrow} → Memᴰ w (only s x) → (s ≡ true) × (w ≡ x)
only-is true m = (refl, Memᴰ.eq_of_singleton m)
only-is false m = absurd (Memᴰ.not-nil m)

pub targets-moves : (B : Board) (q a r : ℕ) → Memᴰ r (targets B q a) ↔ Moves B q a r
targets-moves B q a r = (there, back)
  where
    there : Memᴰ r (targets B q a) → Moves B q a r
    there m =
        let (i, l, n) = gathered (λ x y z. only (eqb x q && eqb y a) z) B.moves m in
        let (e, d, g) = only-both (eqb (from B.moves i) q) (eqb (letter B.moves i) a) n in
        (i, l, eqb-true _ _ e, eqb-true _ _ d, sym g)

    back : Moves B q a r → Memᴰ r (targets B q a)
    back (i, l, e, d, g) =
        gather_in (λ x y z. only (eqb x q && eqb y a) z) B.moves i l (rw (both _ _ (eq-eqb _ _ e) (eq-eqb _ _ d)) (Memᴰ.head (sym g)))

pub arrows-moves : (B : Board) (q : ℕ) (e : Arrow) → Memᴰ e (arrows B q) ↔ Moves B q e.by e.goal
arrows-moves B q e = (there, back)
  where
    there : Memᴰ e (arrows B q) → Moves B q e.by e.goal
    there m =
        let (i, l, n) = gathered (λ x y z. only (eqb x q) (record { by = y; goal = z })) B.moves m in
        let (d, g) = only-is (eqb (from B.moves i) q) n in
        (i, l, eqb-true _ _ d, sym (ap (λ (z : Arrow). z.by) g), sym (ap (λ (z : Arrow). z.goal) g))

    back : Moves B q e.by e.goal → Memᴰ e (arrows B q)
    back (i, l, d, a, r) =
        gather_in (λ x y z. only (eqb x q) (record { by = y; goal = z })) B.moves i l
        (rw (eq-eqb _ _ d) (Memᴰ.head (λ j. record { by = sym a j; goal = sym r j })))

-- ---- inside the board

-- a move's numbers are the board's
pub move-within : (B : Board) → Formed B → (q a r : ℕ) → Moves B q a r → (q < B.n) × (a < B.k) × (r < B.n)
move-within B F q a r (i, l, x, y, z) = let w = F.inside i l in (rw (← x) w.0, rw (← y) w.1, rw (← z) w.2)

pub targets_lt : (B : Board) → Formed B → (q a : ℕ) {r : ℕ} → Memᴰ r (targets B q a) → r < B.n
targets_lt B F q a {r} m = (move-within B F q a r ((targets-moves B q a r).0 m)).2

pub arrows_lt : (B : Board) → Formed B → (q : ℕ) {e : Arrow} → Memᴰ e (arrows B q) → (e.by < B.k) × (e.goal < B.n)
arrows_lt B F q {e} m = let (h, a, r) = move-within B F q e.by e.goal ((arrows-moves B q e).0 m) in (a, r)
