-- What `rest` tells: that the table is at rest by document 01's rules, or which position is the lowest that is not.
use mathlib.Core.Path.{◌≡◌, refl, sym, ap, ◌∙◌}
use mathlib.Core.Logic.{◌⊎◌, inl, inr, ◌↔◌}
use mathlib.Core.Bool.{Bool, true, false, cond}
use mathlib.Core.List.{List}
use Prim.Native.Nat.{ℕ, ◌≤◌, ◌<◌}
use native.Mathlib.Omega.{arith}
use lib.Dec.{ltb}
use borrow.Author.Tests.{ltb-true, ltb-false, le-ltb}
use Rattle.games.specs.Game.{Game, asked, at}
use Rattle.games.specs.Lift.{Rest, Capped, AtRest}
use Rattle.automaton.specs.Answer.{Answer, valued, placed, value, Fault, unless}
use Rattle.automaton.specs.First.{first}
use Rattle.automaton.proofs.First.{first-lowest, first-none}
use Rattle.arena.specs.Job.{Job, game_of}
use Rattle.arena.specs.Refusals.{Proper, Fitting}
use Rattle.entries.specs.Found.{restless}
use Rattle.table.specs.Calls.{rest_at, rested, resting}
use Rattle.table.proofs.Accepted.{entry-line, rest-accepted}
use Rattle.arena.proofs.Open.{open_line}

-- the lowest position not at rest, or P
abbrev lowest : Game → List ℕ → ℕ
lowest g t = first (restless g t) 0 g.P

-- the answer of an accepted call
told : (j : Job) (t : List ℕ) → Fitting j t → Capped (game_of j) t → resting j t ≡ rest_at (game_of j).P (lowest (game_of j) t)
unfolding resting rested
told j t f c =
    ap (λ (k : Fault). unless k (rested (game_of j) t)) ((open_line j t).1 f)
    ∙ ap (λ (k : Fault). unless k (rest_at (game_of j).P (lowest (game_of j) t))) ((entry-line (game_of j) t).1 c)

-- value 1 says that there is none
value-one : (P w : ℕ) → rest_at P w ≡ valued 1 → P ≤ w
value-one P w e = go (ltb w P) refl e
  where
    go : (b : Bool) → ltb w P ≡ b → cond b (placed w) (valued 1) ≡ valued 1 → P ≤ w
    go true d e = let z : ◌≡◌ {A = ℕ} 0 1 = ap value e in absurd (omega arith)
    go false d e = ltb-false w P d

none-restless : (g : Game) (t : List ℕ) → (g.P ≤ lowest g t) ↔ Rest g (at t)
none-restless g t = (
  λ h v l. ltb-false (at t v) (asked g (at t) v) ((first-lowest (restless g t) 0 g.P).before v (omega arith) (omega arith)),
  λ r. omega (arith, (first-none (restless g t) 0 g.P).1 (λ v l k. le-ltb (at t v) (asked g (at t) v) (r v (omega arith)))),
)

-- "value 1 if the table is at rest"
pub rest-told : (j : Job) (t : List ℕ) → (resting j t ≡ valued 1) ↔ (Proper j × AtRest (game_of j) t)
rest-told j t = (there, back)
  where
    there : resting j t ≡ valued 1 → Proper j × AtRest (game_of j) t
    there e =
        let (f, c) = (rest-accepted j t).0 (ap (λ (a : Answer). a.number) e) in
        let r = (none-restless (game_of j) t).0 (value-one (game_of j).P (lowest (game_of j) t) (sym (told j t f c) ∙ e)) in
        (f.0, record { entries = f.1; capped = c; rest = r })

    back : Proper j × AtRest (game_of j) t → resting j t ≡ valued 1
    back h =
        let r = h.1 in
        told j t (h.0, r.entries) r.capped ∙ simp (le-ltb (lowest (game_of j) t) (game_of j).P ((none-restless (game_of j) t).1 r.rest))

-- "else 0 with the lowest position not at rest as place"
pub rest-lowest : (j : Job) (t : List ℕ) (v : ℕ) → resting j t ≡ placed v
    → (v < (game_of j).P) × ((at t v < asked (game_of j) (at t) v) × ((u : ℕ) → u < v → asked (game_of j) (at t) u ≤ at t u))
rest-lowest j t v e = go (ltb w P) refl (sym (told j t accepted.0 accepted.1) ∙ e)
  where
    P : ℕ
    P = (game_of j).P

    w : ℕ
    w = lowest (game_of j) t

    accepted : Fitting j t × Capped (game_of j) t
    accepted = (rest-accepted j t).0 (ap (λ (a : Answer). a.number) e)

    go : (b : Bool) → ltb w P ≡ b → cond b (placed w) (valued 1) ≡ placed v
        → (v < P) × ((at t v < asked (game_of j) (at t) v) × ((u : ℕ) → u < v → asked (game_of j) (at t) u ≤ at t u))
    go true d a =
        let same : w ≡ v = ap (λ (x : Answer). x.place) a in
        let l = first-lowest (restless (game_of j) t) 0 P in
        let below : w < P = ltb-true w P d in (
          omega arith,
          (
            ltb-true (at t v) (asked (game_of j) (at t) v) (rw same at (l.here (omega arith))),
            λ u h. ltb-false (at t u) (asked (game_of j) (at t) u) (l.before u (omega arith) (omega arith)),
          ),
        )
    go false d a = let z : ◌≡◌ {A = ℕ} 1 0 = ap value a in absurd (omega arith)

-- a table with a wrong entry nowhere is at rest, or `rest` names a position
pub rest-either : (j : Job) (t : List ℕ) → Fitting j t → Capped (game_of j) t → (resting j t ≡ valued 1) ⊎ ((v : ℕ) × (resting j t ≡ placed v))
rest-either j t f c = go (ltb w P) refl
  where
    P : ℕ
    P = (game_of j).P

    w : ℕ
    w = lowest (game_of j) t

    go : (b : Bool) → ltb w P ≡ b → (resting j t ≡ valued 1) ⊎ ((v : ℕ) × (resting j t ≡ placed v))
    go true d = inr (w, told j t f c ∙ simp d)
    go false d = inl (told j t f c ∙ simp d)
