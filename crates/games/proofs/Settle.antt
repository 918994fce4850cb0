-- The defined settle comes to rest at the least table, and every order of lifts that comes to rest holds that table.
use mathlib.Core.Path.{◌≡◌, refl, sym, ◌∙◌}
use mathlib.Core.List.{List, [], ◌∷◌, ◌++◌, Memᴰ}
use Prim.Native.Nat.{ℕ, zero, suc, ◌+◌, ◌≤◌, ◌<◌}
use native.Mathlib.Nat.{le_antisymm}
use native.Mathlib.Omega.{arith}
use native.Mathlib.Decide.{ℕ_discrete}
use lib.ListN.{length}
use lib.Seq.{ext_get_or}
use Rattle.games.specs.Game.{Game, at}
use Rattle.games.specs.Lift.{cleared, lifts, raises, bound, Covers, AtRest, Least}
use Rattle.games.specs.Settle.{ascending, sweep, Outcome, after, sweeps, enough, settle}
use Rattle.games.proofs.Lift.{lifts-entries, lifts_append, lifts-capped, cleared-entries, cleared-capped, never-past}
use Rattle.games.proofs.Raises.{unraised_rest, raises_append, raises-most, total, total_lifts, total_most}

-- ---- the least table

pub least-one : (g : Game) (t u : List ℕ) → Least g t → Least g u → t ≡ u
least-one g t u a b =
    ext_get_or 0 t u (a.at_rest.entries ∙ sym b.at_rest.entries) (λ i h. le_antisymm (a.least u b.at_rest i) (b.least t a.at_rest i))

-- where lifting comes to rest it is at the least table
pub rest-least : (g : Game) (vs : List ℕ) → AtRest g (lifts g (cleared g) vs) → Least g (lifts g (cleared g) vs)
rest-least g vs r = record { at_rest = r; least = λ u s v. never-past g vs u s v }

-- "All orders that come to rest hold that table."
pub one_table : (g : Game) (t vs : List ℕ) → Least g t → AtRest g (lifts g (cleared g) vs) → lifts g (cleared g) vs ≡ t
one_table g t vs l r = least-one g (lifts g (cleared g) vs) t (rest-least g vs r) l

-- ---- the sweeps

pub mem_ascending : (v c x : ℕ) → v ≤ x → x < v + c → Memᴰ x (ascending v c)
mem_ascending v zero x h l = absurd (omega arith)
mem_ascending v (suc c) x h l = go (ℕ_discrete x v) (λ i j. mem_ascending (suc v) c x i j)
  where
    go : Dec (x ≡ v) → (suc v ≤ x → x < suc v + c → Memᴰ x (ascending (suc v) c)) → Memᴰ x (v ∷ ascending (suc v) c)
    go (yes e) rec = Memᴰ.head e
    go (no ne) rec = Memᴰ.tail (rec (omega arith) (omega arith))

pub sweep_covers : (g : Game) → Covers g (sweep g)
sweep_covers g v h = mem_ascending 0 g.P v (omega arith) (omega arith)

-- an outcome that some lifts of t bring about, at rest
record Ends (g : Game) (t : List ℕ) (o : Outcome) : Type 0 where
  by : List ℕ
  is : lifts g t by ≡ o.table
  rose : raises g t by ≡ o.raised
  rest : AtRest g o.table

sweeps-end : (g : Game) (c : ℕ) (t : List ℕ) → length t ≡ g.P → ((v : ℕ) → at t v ≤ g.T) → bound g ≤ total t + c → Ends g t (sweeps g c t)
sweeps-end g zero t l cap m = record {
  by = [];
  is = refl;
  rose = refl;
  rest = unraised_rest g t (sweep g) l cap (sweep_covers g) (omega (arith, total_most g (sweep g) t l cap));
}
sweeps-end g (suc c) t l cap m = go (raises g t (sweep g)) refl (λ x y z. sweeps-end g c t' x y z)
  where
    t' : List ℕ
    t' = lifts g t (sweep g)

    go : (s : ℕ) → raises g t (sweep g) ≡ s
        → (length t' ≡ g.P → ((v : ℕ) → at t' v ≤ g.T) → bound g ≤ total t' + c → Ends g t' (sweeps g c t'))
        → Ends g t (after s t (λ x. sweeps g c t'))
    go zero e rec = record { by = []; is = refl; rose = refl; rest = unraised_rest g t (sweep g) l cap (sweep_covers g) e }
    go (suc s) e rec =
        let r = rec (lifts-entries g (sweep g) t ∙ l) (lifts-capped g (sweep g) t l cap) (omega (arith, total_lifts g (sweep g) t)) in
        record {
          by = sweep g ++ r.by;
          is = lifts_append g (sweep g) r.by t ∙ r.is;
          rose = raises_append g (sweep g) r.by t ∙ omega (arith, r.rose);
          rest = r.rest;
        }

settle-ends : (g : Game) → Ends g (cleared g) (settle g)
settle-ends g = sweeps-end g (enough g) (cleared g) (cleared-entries g) (cleared-capped g) (omega arith)

-- the settled table is one that lifts of the cleared table make
pub settle-by : (g : Game) → (vs : List ℕ) × (lifts g (cleared g) vs ≡ (settle g).table)
settle-by g = let e = settle-ends g in (e.by, e.is)

pub settle-rest : (g : Game) → AtRest g (settle g).table
settle-rest g = (settle-ends g).rest

-- the least table at rest: there is one, and settle finds it
pub settle-least : (g : Game) → Least g (settle g).table
settle-least g = let e = settle-ends g in rw e.is at (rest-least g e.by (rw e.is e.rest))

pub settle-raises : (g : Game) → (settle g).raised ≤ bound g
settle-raises g = let e = settle-ends g in rw (← e.rose) (raises-most g e.by)
