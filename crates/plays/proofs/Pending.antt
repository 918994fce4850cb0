-- Mode 2: what is pending goes back to a state of Red's, and it is pending until Blue accepts.
use mathlib.Core.Path.{◌≡◌, refl, sym, ap, ◌∙◌}
use mathlib.Core.Logic.{◌≢◌}
use mathlib.Core.Bool.{Bool, true, false}
use Prim.Native.Nat.{ℕ, zero, suc, ◌≤◌}
use native.Mathlib.Nat.{le_refl}
use native.Mathlib.Omega.{arith}
use native.Mathlib.Decide.{ℕ_discrete, dec_le}
use Rattle.games.proofs.Complete.{apart}
use Rattle.automaton.specs.declared.Mode.TheVariants.{Delayed}
use Rattle.automaton.specs.Board.{Board, accepts}
use Rattle.simulation.specs.Rules.{pended, eased}
use Rattle.plays.specs.Plays.{History, first, round, red, Run, up_to, blue}
use Rattle.plays.proofs.Standing.{owing}
use Rattle.plays.proofs.Runs.{up_to_red}

red_owes : (B : Board) (h : History) → accepts B (red h) ≡ true → owing B Delayed h ≡ 1
red_owes B (first q) e = ap (λ (x : Bool). pended Delayed x 0) e
red_owes B (round h q' a q) e = ap (λ (x : Bool). pended Delayed x (eased Delayed (accepts B q') (owing B Delayed h))) e

owing_stays : (x : Bool) (b : ℕ) → b ≡ 1 → pended Delayed x b ≡ 1
owing_stays true b e = refl
owing_stays false b e = e

pending_stays : (y : Bool) (b : ℕ) → b ≡ 1 → y ≢ true → eased Delayed y b ≡ 1
pending_stays true b e n = absurd (n refl)
pending_stays false b e n = e

module _ {B : Board} (f : History → ℕ) (π : Run B) where
  -- Red accepted in some round up to n, and Blue has not since
  abbrev pub Since : ℕ → Type 0
  Since n = (i : ℕ) × (i ≤ n) × (accepts B (π.state i) ≡ true) × ((j : ℕ) → i ≤ j → j ≤ n → accepts B (blue f π j) ≢ true)

  -- the bit b after round n
  abbrev pub pending : ℕ → ℕ
  pending n = eased Delayed (accepts B (blue f π n)) (owing B Delayed (up_to f π n))

  now : (n : ℕ) → accepts B (π.state n) ≡ true → accepts B (blue f π n) ≡ false → Since n
  now n e d = (n, le_refl n, e, λ j a b t. apart (cc (ap (λ (i : ℕ). accepts B (blue f π i)) (same j a b))))
    where
      same : (j : ℕ) → n ≤ j → j ≤ n → j ≡ n
      same j a b = omega arith

  still : (n : ℕ) → accepts B (blue f π (suc n)) ≡ false → Since n → Since (suc n)
  still n d (i, l, e, none) = (i, omega arith, e, λ j a b. go j a b (ℕ_discrete j (suc n)))
    where
      go : (j : ℕ) → i ≤ j → j ≤ suc n → Dec (j ≡ suc n) → accepts B (blue f π j) ≢ true
      go j a b (yes s) t = apart (cc (ap (λ (i : ℕ). accepts B (blue f π i)) s))
      go j a b (no s) t = none j a (omega arith) t

  pub pending_since : (n : ℕ) → pending n ≢ 0 → Since n
  pending_since zero h = go (accepts B (π.state zero)) (accepts B (blue f π zero)) refl refl h
    where
      go : (x y : Bool) → accepts B (π.state zero) ≡ x → accepts B (blue f π zero) ≡ y → eased Delayed y (pended Delayed x 0) ≢ 0 → Since zero
      go true true e d h = absurd (h refl)
      go true false e d h = now zero e d
      go false true e d h = absurd (h refl)
      go false false e d h = absurd (h refl)
  pending_since (suc n) h = go (accepts B (π.state (suc n))) (accepts B (blue f π (suc n))) (pending n) refl refl h (λ k. pending_since n k)
    where
      go : (x y : Bool) (b : ℕ) → accepts B (π.state (suc n)) ≡ x → accepts B (blue f π (suc n)) ≡ y → eased Delayed y (pended Delayed x b) ≢ 0 → (b ≢ 0 → Since n) → Since (suc n)
      go true true b e d h rec = absurd (h refl)
      go true false b e d h rec = now (suc n) e d
      go false true b e d h rec = absurd (h refl)
      go false false b e d h rec = still n d (rec h)

  red_owes_at : (i n : ℕ) → i ≡ n → accepts B (π.state i) ≡ true → owing B Delayed (up_to f π n) ≡ 1
  red_owes_at i n s e = red_owes B (up_to f π n) (ap (accepts B) (up_to_red f π n ∙ ap π.state (sym s)) ∙ e)

  pub pending_until : (i n : ℕ) → i ≤ n → accepts B (π.state i) ≡ true → ((j : ℕ) → i ≤ j → j ≤ n → accepts B (blue f π j) ≢ true) → pending n ≡ 1
  pending_until i zero l e none = pending_stays (accepts B (blue f π zero)) (owing B Delayed (up_to f π zero)) (red_owes_at i zero (omega arith) e) (none zero l (le_refl zero))
  pending_until i (suc n) l e none =
      pending_stays (accepts B (blue f π (suc n))) (owing B Delayed (up_to f π (suc n)))
      (go (dec_le i n) (λ k. pending_until i n k e (λ j a b. none j a (omega arith))))
      (none (suc n) l (le_refl (suc n)))
    where
      go : Dec (i ≤ n) → (i ≤ n → pending n ≡ 1) → owing B Delayed (up_to f π (suc n)) ≡ 1
      go (yes k) rec = owing_stays (accepts B (π.state (suc n))) (pending n) (rec k)
      go (no k) rec = red_owes_at i (suc n) (omega arith) e
