-- The targets of a state by a letter ascend, since the moves do.
use mathlib.Core.Path.{◌≡◌, refl, subst}
use mathlib.Core.Logic.{inl, inr}
use mathlib.Core.Bool.{Bool, true, false, ◌&&◌}
use mathlib.Core.List.{List, [], ◌∷◌, ◌++◌, Memᴰ}
use Prim.Native.Nat.{ℕ, suc, ◌+◌, ◌*◌, ◌≤◌, ◌<◌}
use native.Mathlib.Omega.{arith}
use lib.Dec.{eqb}
use lib.ListN.{length}
use borrow.Author.Tests.{eqb-true}
use Rattle.automaton.specs.Board.{Board, from, letter, to, Above, Formed}
use Rattle.simulation.specs.Moves.{only, gather, targets}
use Rattle.simulation.proofs.Moves.{move-past}

above_trans : (x y z x' y' z' x'' y'' z'' : ℕ) → Above x y z x' y' z' → Above x' y' z' x'' y'' z'' → Above x y z x'' y'' z''
above_trans x y z x' y' z' x'' y'' z'' (inl a) (inl b) = inl (omega arith)
above_trans x y z x' y' z' x'' y'' z'' (inl a) (inr (d, b)) = inl (omega arith)
above_trans x y z x' y' z' x'' y'' z'' (inr (e, a)) (inl b) = inl (omega arith)
above_trans x y z x' y' z' x'' y'' z'' (inr (e, inl a)) (inr (d, inl b)) = inr (omega arith, inl (omega arith))
above_trans x y z x' y' z' x'' y'' z'' (inr (e, inl a)) (inr (d, inr (g, b))) = inr (omega arith, inl (omega arith))
above_trans x y z x' y' z' x'' y'' z'' (inr (e, inr (h, a))) (inr (d, inl b)) = inr (omega arith, inl (omega arith))
above_trans x y z x' y' z' x'' y'' z'' (inr (e, inr (h, a))) (inr (d, inr (g, b))) = inr (omega arith, inr (omega arith, omega arith))

-- every move of ms is above (x,y,z); and every move of ms is above all before it
abbrev Over : (x y z : ℕ) → List ℕ → Type 0
Over x y z [] = Unit {0}
Over x y z (x' ∷ []) = Unit {0}
Over x y z (x' ∷ y' ∷ []) = Unit {0}
Over x y z (x' ∷ y' ∷ z' ∷ ms) = Above x y z x' y' z' × Over x y z ms

abbrev Ordered : List ℕ → Type 0
Ordered [] = Unit {0}
Ordered (x ∷ []) = Unit {0}
Ordered (x ∷ y ∷ []) = Unit {0}
Ordered (x ∷ y ∷ z ∷ ms) = Over x y z ms × Ordered ms

over_trans : (x y z x' y' z' : ℕ) (ms : List ℕ) → Above x y z x' y' z' → Over x' y' z' ms → Over x y z ms
over_trans x y z x' y' z' [] a o = tt
over_trans x y z x' y' z' (u ∷ []) a o = tt
over_trans x y z x' y' z' (u ∷ v ∷ []) a o = tt
over_trans x y z x' y' z' (u ∷ v ∷ w ∷ ms) a o = (above_trans x y z x' y' z' u v w a o.0, over_trans x y z x' y' z' ms a o.1)

-- each move is above the one before it
abbrev Consecutive : List ℕ → Type 0
Consecutive ms = (i : ℕ) → i * 3 + 5 < length ms → Above (from ms i) (letter ms i) (to ms i) (from ms (suc i)) (letter ms (suc i)) (to ms (suc i))

ordered : (ms : List ℕ) → Consecutive ms → Ordered ms
ordered [] c = tt
ordered (x ∷ []) c = tt
ordered (x ∷ y ∷ []) c = tt
ordered (x ∷ y ∷ z ∷ []) c = (tt, tt)
ordered (x ∷ y ∷ z ∷ x' ∷ []) c = (tt, tt)
ordered (x ∷ y ∷ z ∷ x' ∷ y' ∷ []) c = (tt, tt)
ordered (x ∷ y ∷ z ∷ x' ∷ y' ∷ z' ∷ ms) c =
    let o = ordered (x' ∷ y' ∷ z' ∷ ms) later in
    let a : Above x y z x' y' z' = c 0 (omega arith) in
    ((a, over_trans x y z x' y' z' ms a o.0), o)
  where
    later : Consecutive (x' ∷ y' ∷ z' ∷ ms)
    later i l =
        move-past x y z (x' ∷ y' ∷ z' ∷ ms) (λ u v w. Above u v w (from (x' ∷ y' ∷ z' ∷ ms) (suc i)) (letter (x' ∷ y' ∷ z' ∷ ms) (suc i)) (to (x' ∷ y' ∷ z' ∷ ms) (suc i))) i
        (move-past x y z (x' ∷ y' ∷ z' ∷ ms) (λ u v w. Above (from all (suc i)) (letter all (suc i)) (to all (suc i)) u v w) (suc i) (c (suc i) (omega arith)))
      where
        all : List ℕ
        all = x ∷ y ∷ z ∷ x' ∷ y' ∷ z' ∷ ms

-- a strictly ascending list, none below lo
abbrev pub Rising : ℕ → List ℕ → Type 0
Rising lo [] = Unit {0}
Rising lo (x ∷ xs) = (lo ≤ x) × Rising (suc x) xs

pub rising_ge : {w : ℕ} (lo : ℕ) (l : List ℕ) → Rising lo l → Memᴰ w l → lo ≤ w
rising_ge lo l r (Memᴰ.head {x = x} {xs = xs} e) = omega arith
rising_ge lo l r (Memᴰ.tail {x = x} {xs = xs} m) = omega (arith, rising_ge (suc x) xs r.1 m)

-- the moves of (q,a) among ms all come above lo
abbrev Beyond : (q a lo : ℕ) → List ℕ → Type 0
Beyond q a lo [] = Unit {0}
Beyond q a lo (x ∷ []) = Unit {0}
Beyond q a lo (x ∷ y ∷ []) = Unit {0}
Beyond q a lo (x ∷ y ∷ z ∷ ms) = (x ≡ q → y ≡ a → lo ≤ z) × Beyond q a lo ms

over-beyond : (q a z : ℕ) (ms : List ℕ) → Over q a z ms → Beyond q a (suc z) ms
over-beyond q a z [] o = tt
over-beyond q a z (x' ∷ []) o = tt
over-beyond q a z (x' ∷ y' ∷ []) o = tt
over-beyond q a z (x' ∷ y' ∷ z' ∷ ms) o = (λ e d. go o.0 e d, over-beyond q a z ms o.1)
  where
    go : Above q a z x' y' z' → x' ≡ q → y' ≡ a → suc z ≤ z'
    go (inl h) e d = absurd (omega arith)
    go (inr (g, inl h)) e d = absurd (omega arith)
    go (inr (g, inr (k, h))) e d = omega arith

gather-rising : (q a lo : ℕ) (ms : List ℕ) → Ordered ms → Beyond q a lo ms → Rising lo (gather (λ x y z. only (eqb x q && eqb y a) z) ms)
gather-rising q a lo [] o b = tt
gather-rising q a lo (x ∷ []) o b = tt
gather-rising q a lo (x ∷ y ∷ []) o b = tt
gather-rising q a lo (x ∷ y ∷ z ∷ ms) o b =
    go (eqb x q) (eqb y a) refl refl (λ l k. gather-rising q a l ms o.1 k)
  where
    rest : List ℕ
    rest = gather (λ x y z. only (eqb x q && eqb y a) z) ms

    go : (s t : Bool) → eqb x q ≡ s → eqb y a ≡ t → ((l : ℕ) → Beyond q a l ms → Rising l rest) → Rising lo (only (s && t) z ++ rest)
    go true true e d rec =
        let e' = eqb-true x q e in
        let d' = eqb-true y a d in
        (b.0 e' d', rec (suc z) (over-beyond q a z ms (subst (λ (u : ℕ). Over q u z ms) d' (subst (λ (u : ℕ). Over u y z ms) e' o.0))))
    go true false e d rec = rec lo b.1
    go false t e d rec = rec lo b.1

beyond-none : (q a : ℕ) (ms : List ℕ) → Beyond q a 0 ms
beyond-none q a [] = tt
beyond-none q a (x ∷ []) = tt
beyond-none q a (x ∷ y ∷ []) = tt
beyond-none q a (x ∷ y ∷ z ∷ ms) = (λ e d. omega arith, beyond-none q a ms)

pub targets-rising : (B : Board) → Formed B → (q a : ℕ) → Rising 0 (targets B q a)
targets-rising B F q a = gather-rising q a 0 B.moves (ordered B.moves F.order) (beyond-none q a B.moves)
