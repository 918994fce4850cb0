-- Calls of `lift` one after another do what the lifts of their positions do: a refused one does nothing.
use Rattle.std.proofs.Common.{◌≡◌, refl, sym, ap, ◌∙◌, subst, List, [], ◌∷◌, ◌++◌, ℕ, ◌<◌, arith, length, take, take_at, drop_at}
use native.Mathlib.Decide.{dec_lt}
use borrow.Rule.Slice.PartMut.{put_same}
use Rattle.games.specs.Lift.{lift, lifts, rise, raises, Capped}
use Rattle.games.proofs.Lift.{lift-entries, lift-out, lifts-entries, lifts-capped}
use Rattle.automaton.specs.Answer.{value}
use Rattle.arena.specs.Job.{Job, game_of}
use Rattle.automaton.specs.Effect.{Effect}
use Rattle.arena.specs.Refusals.{Proper, Fitting}
use Rattle.table.specs.Calls.{lifting}
use Rattle.table.proofs.Accepted.{lift-accepted, lift-refused, lift-does, lift-beyond}
use Rattle.demands.specs.Order.{Call, due, stray, part, lent, restored, between, effect, Orderly, AllOrderly, after, raised, due_positions}

-- a table of the one automaton and mode that lifting has filled
pub record Held (j : Job) (t : List ℕ) : Type 0 where
  pub proper : Proper j
  pub entries : length t ≡ (game_of j).P
  pub capped : Capped (game_of j) t

module _ (j : Job) (t : List ℕ) (H : Held j t) where
  -- a due call lifts its position, or does nothing where that is out of range
  due-is : (v : ℕ) → ((lifting j t v).left ≡ lift (game_of j) t v) × (value (lifting j t v).answer ≡ rise (game_of j) t v)
  due-is v = go (dec_lt v (game_of j).P)
    where
      go : Dec (v < (game_of j).P) → ((lifting j t v).left ≡ lift (game_of j) t v) × (value (lifting j t v).answer ≡ rise (game_of j) t v)
      go (yes h) =
          let e = lift-does j t v (H.proper, H.entries) H.capped h in
          (ap (λ (x : Effect (List ℕ)). x.left) e, ap (λ (x : Effect (List ℕ)). value x.answer) e)
      go (no h) =
          let e = lift-beyond j t v (H.proper, H.entries) H.capped (omega arith) in
          let s = lift-out (game_of j) t v (omega (arith, H.entries)) in
          (ap (λ (x : Effect (List ℕ)). x.left) e ∙ sym s, ap (λ (x : Effect (List ℕ)). value x.answer) e ∙ rw s (omega arith))

  held-lift : (v : ℕ) → Held j (lift (game_of j) t v)
  held-lift v = record {
    proper = H.proper;
    entries = lift-entries (game_of j) t v ∙ H.entries;
    capped = lifts-capped (game_of j) (v ∷ []) t H.entries H.capped;
  }

-- what was lent comes back between the others as it was
between-lent : (before behind p : List ℕ) → between before p (lent before behind p) ≡ p
between-lent before behind p = ap (take (length p)) (drop_at before (p ++ behind) (length before) refl) ∙ take_at p behind (length p) refl

-- a stray call that was refused leaves the table, and has the value 0
stray-is : (j i : Job) (t before behind : List ℕ) (skip count v : ℕ) → Orderly j t (stray i before behind skip count v)
    → ((effect j t (stray i before behind skip count v)).left ≡ t) × (value (effect j t (stray i before behind skip count v)).answer ≡ 0)
stray-is j i t before behind skip count v n =
    let p = part skip count t in
    let e = (lift-refused i (lent before behind p) v n).1 in (
      ap (λ (x : Effect (List ℕ)). restored skip count t (between before p x.left)) e ∙ ap (restored skip count t) (between-lent before behind p) ∙ put_same skip count t,
      ap (λ (x : Effect (List ℕ)). value x.answer) e,
    )

-- Such are all calls with a malformed automaton, an unknown mode, or a table that has not P entries.
pub misfit_orderly : (j i : Job) (t before behind : List ℕ) (skip count v : ℕ)
    → ¬ Fitting i (lent before behind (part skip count t)) → Orderly j t (stray i before behind skip count v)
misfit_orderly j i t before behind skip count v n = λ z. n ((lift-accepted i (lent before behind (part skip count t)) v).0 z).0

-- so any calls come to the lifts of the positions that were due
pub after-lifts : (j : Job) (cs : List Call) (t : List ℕ) → Held j t → AllOrderly j t cs
    → (after j t cs ≡ lifts (game_of j) t (due_positions cs)) × (raised j t cs ≡ raises (game_of j) t (due_positions cs))
after-lifts j [] t H o = (refl, refl)
after-lifts j (due v ∷ cs) t H o =
    let (e, r) = due-is j t H v in
    let (a, b) = after-lifts j cs (lift (game_of j) t v) (held-lift j t H v) (subst (λ (u : List ℕ). AllOrderly j u cs) e o.1) in
    (ap (λ (u : List ℕ). after j u cs) e ∙ a, omega (arith, r, ap (λ (u : List ℕ). raised j u cs) e, b))
after-lifts j (stray i before behind skip count v ∷ cs) t H o =
    let (e, r) = stray-is j i t before behind skip count v o.0 in
    let (a, b) = after-lifts j cs t H (subst (λ (u : List ℕ). AllOrderly j u cs) e o.1) in
    (ap (λ (u : List ℕ). after j u cs) e ∙ a, omega (arith, r, ap (λ (u : List ℕ). raised j u cs) e, b))

-- and leave a table that may be lifted on
pub held_after : (j : Job) (cs : List Call) (t : List ℕ) → Held j t → AllOrderly j t cs → Held j (after j t cs)
held_after j cs t H o = subst (Held j) (sym (after-lifts j cs t H o).0) (record {
  proper = H.proper;
  entries = lifts-entries (game_of j) (due_positions cs) t ∙ H.entries;
  capped = lifts-capped (game_of j) (due_positions cs) t H.entries H.capped;
})
