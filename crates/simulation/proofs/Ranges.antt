-- Where the moves from a state, or from a state by a letter, are a stretch of the moves, the lists of arrows and targets are that stretch.
use mathlib.Core.Path.{◌≡◌, refl, sym, ap, ◌∙◌}
use mathlib.Core.Logic.{◌≢◌}
use mathlib.Core.Bool.{true, false, ◌&&◌}
use mathlib.Core.List.{List, [], ◌∷◌, map}
use Prim.Native.Nat.{ℕ, zero, suc, ◌+◌, ◌*◌, ◌-◌, ◌≤◌, ◌<◌}
use native.Mathlib.Omega.{arith}
use lib.Dec.{eqb}
use lib.ListN.{length}
use borrow.Author.Tests.{eq-eqb, ne_eqb}
use Rattle.games.specs.Settle.{ascending}
use Rattle.automaton.specs.Board.{Board, from, letter, to}
use Rattle.simulation.specs.Moves.{only, gather, targets, arrows}
use Rattle.simulation.proofs.Moves.{made, made_suc}

-- ---- what is gathered from a stretch

-- f makes h i of each of the c moves from lo on, and nothing of the others
record Range {X : Type 0} (f : ℕ → ℕ → ℕ → List X) (ms : List ℕ) (h : ℕ → X) (lo c : ℕ) : Type 0 where
  inside : (lo + c) * 3 ≤ length ms
  before : (i : ℕ) → i < lo → made f ms i ≡ []
  within : (i : ℕ) → lo ≤ i → i < lo + c → made f ms i ≡ h i ∷ []
  after : (i : ℕ) → lo + c ≤ i → i * 3 + 2 < length ms → made f ms i ≡ []

map_ascending : {X : Type 0} (h : ℕ → X) (v c : ℕ) → map h (ascending (suc v) c) ≡ map (λ i. h (suc i)) (ascending v c)
map_ascending h v zero = refl
map_ascending h v (suc c) = ap (λ z. h (suc v) ∷ z) (map_ascending h (suc v) c)

-- fewer than three bytes are no move
short : {X : Type 0} (h : ℕ → X) (lo c : ℕ) → (lo + c) * 3 ≤ 2 → [] ≡ map h (ascending lo c)
short h lo zero l = refl
short h lo (suc c) l = absurd (omega arith)

module _ {X : Type 0} (f : ℕ → ℕ → ℕ → List X) where
  -- the stretch in the moves after the first
  later : (x y z : ℕ) (ms : List ℕ) (h : ℕ → X) (lo c lo' c' : ℕ) → lo' ≡ lo - 1 → lo' + c' ≡ lo + c - 1
      → Range f (x ∷ y ∷ z ∷ ms) h lo c → Range f ms (λ i. h (suc i)) lo' c'
  later x y z ms h lo c lo' c' e d r = record {
    inside = omega (arith, r.inside);
    before = λ i l. sym (made_suc f x y z ms i) ∙ r.before (suc i) (omega arith);
    within = λ i l k. sym (made_suc f x y z ms i) ∙ r.within (suc i) (omega arith) (omega arith);
    after = λ i l k. sym (made_suc f x y z ms i) ∙ r.after (suc i) (omega arith) (omega arith);
  }

  gather_range : (ms : List ℕ) (h : ℕ → X) (lo c : ℕ) → Range f ms h lo c → gather f ms ≡ map h (ascending lo c)
  gather_range [] h lo c r = short h lo c (omega (arith, r.inside))
  gather_range (x ∷ []) h lo c r = short h lo c (omega (arith, r.inside))
  gather_range (x ∷ y ∷ []) h lo c r = short h lo c r.inside
  gather_range (x ∷ y ∷ z ∷ ms) h (suc lo) c r =
      rw (r.before 0 (omega arith))
      (gather_range ms (λ i. h (suc i)) lo c (later x y z ms h (suc lo) c lo c (omega arith) (omega arith) r) ∙ sym (map_ascending h lo c))
  gather_range (x ∷ y ∷ z ∷ ms) h zero zero r =
      rw (r.after 0 (omega arith) (omega arith)) (gather_range ms (λ i. h (suc i)) 0 0 (later x y z ms h 0 0 0 0 refl refl r))
  gather_range (x ∷ y ∷ z ∷ ms) h zero (suc c) r =
      rw (r.within 0 (omega arith) (omega arith))
      (ap (λ w. h 0 ∷ w) (gather_range ms (λ i. h (suc i)) 0 c (later x y z ms h 0 (suc c) 0 c refl (omega arith) r) ∙ sym (map_ascending h 0 c)))

-- ---- the arrows and the targets of a state

-- the moves from q are the c moves from lo on
pub record Leaving (B : Board) (q lo c : ℕ) : Type 0 where
  pub inside : (lo + c) * 3 ≤ length B.moves
  pub before : (i : ℕ) → i < lo → from B.moves i ≢ q
  pub within : (i : ℕ) → lo ≤ i → i < lo + c → from B.moves i ≡ q
  pub after : (i : ℕ) → lo + c ≤ i → i * 3 + 2 < length B.moves → from B.moves i ≢ q

pub arrows_range : (B : Board) (q lo c : ℕ) → Leaving B q lo c → arrows B q ≡ map (λ i. record { by = letter B.moves i; goal = to B.moves i }) (ascending lo c)
arrows_range B q lo c r =
    gather_range (λ x y z. only (eqb x q) (record { by = y; goal = z })) B.moves (λ i. record { by = letter B.moves i; goal = to B.moves i }) lo c (record {
      inside = r.inside;
      before = λ i l. rw (ne_eqb (from B.moves i) q (r.before i l));
      within = λ i l k. rw (eq-eqb (from B.moves i) q (r.within i l k));
      after = λ i l k. rw (ne_eqb (from B.moves i) q (r.after i l k));
    })

-- the moves from q by a are the c moves from lo on
pub record Answering (B : Board) (q a lo c : ℕ) : Type 0 where
  pub inside : (lo + c) * 3 ≤ length B.moves
  pub before : (i : ℕ) → i < lo → (eqb (from B.moves i) q && eqb (letter B.moves i) a) ≡ false
  pub within : (i : ℕ) → lo ≤ i → i < lo + c → (eqb (from B.moves i) q && eqb (letter B.moves i) a) ≡ true
  pub after : (i : ℕ) → lo + c ≤ i → i * 3 + 2 < length B.moves → (eqb (from B.moves i) q && eqb (letter B.moves i) a) ≡ false

pub targets_range : (B : Board) (q a lo c : ℕ) → Answering B q a lo c → targets B q a ≡ map (to B.moves) (ascending lo c)
targets_range B q a lo c r =
    gather_range (λ x y z. only (eqb x q && eqb y a) z) B.moves (to B.moves) lo c (record {
      inside = r.inside;
      before = λ i l. rw (r.before i l);
      within = λ i l k. rw (r.within i l k);
      after = λ i l k. rw (r.after i l k);
    })
