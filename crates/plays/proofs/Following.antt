-- The strategy that takes the replies of a table at rest: of a history it remembers no more than the bit b.
use mathlib.Core.Path.{◌≡◌, refl, sym, subst}
use mathlib.Core.Logic.{◌⊎◌}
use mathlib.Core.List.{List, Memᴰ}
use Prim.Native.Nat.{ℕ, zero, suc, ◌+◌, ◌≤◌, ◌<◌}
use native.Mathlib.Omega.{arith}
use Rattle.games.specs.Game.{at}
use Rattle.games.specs.Lift.{AtRest}
use Rattle.automaton.specs.declared.Mode.{Mode}
use Rattle.automaton.specs.Board.{Board, accepts, Formed}
use Rattle.simulation.specs.Moves.{Moves, targets}
use Rattle.simulation.specs.Position.{spoiler, number}
use Rattle.simulation.specs.Rules.{pended, eased, kind_of, game}
use Rattle.simulation.specs.Answers.{replies}
use Rattle.simulation.proofs.Moves.{targets-moves}
use Rattle.simulation.proofs.Turns.{counting_at, resetting_at}
use Rattle.laws.specs.Families.{Fall, Begins}
use Rattle.laws.proofs.Families.{owed-round}
use Rattle.laws.proofs.Entries.{Entries, entries-answer, entries-reply}
use Rattle.plays.specs.Plays.{History, first, round, red, KeepsTo, Strategy, Run, up_to, Often}
use Rattle.plays.specs.Readings.{Classically}
use Rattle.plays.proofs.Standing.{owing, standing}
use Rattle.plays.proofs.Runs.{up_to_keeps}
use Rattle.plays.proofs.Falling.{relief_comes, relief_comes_classically}

-- Blue is placed on r at first, and then by the replies of a table
abbrev pub following : Board → Mode → (table : List ℕ) → (r : ℕ) → History → ℕ
following B m t r (first q) = r
following B m t r (round h q' a q) = replies B m t (owing B m (round h q' a q)) q q' a

-- an entry below T stands where it is
module _ {B : Board} {m : Mode} {t : List ℕ} {b q r k : ℕ} where
  own : Entries B m t b q r k → Entries B m t b q r (at t (number B m (spoiler b q r)))
  own e = record { good = e.good; is = refl; below = omega (arith, e.is, e.below) }

module _ (B : Board) (F : Formed B) (m : Mode) (t : List ℕ) (rest : AtRest (game B m) t) (q r : ℕ) (start : Begins B m (Entries B m t) q r) where
  abbrev f : History → ℕ
  f = following B m t r

  -- the entry where play stands after a history, and that it is below T there
  abbrev entry : History → ℕ
  entry h = at t (number B m (standing B m h (f h)))

  abbrev Held : History → Type 0
  Held h = Entries B m t (eased m (accepts B (f h)) (owing B m h)) (red h) (f h) (entry h)

  -- a round more: Blue makes a move, and the entry goes on as a rank does
  record Answers (h : History) (a q₁ : ℕ) : Type 0 where
    move : Moves B (f h) a (f (round h (f h) a q₁))
    held : Held (round h (f h) a q₁)
    fall : Fall (kind_of B m (standing B m h (f h))) (entry h) (entry (round h (f h) a q₁))

  answers : (h : History) → Held h → (a q₁ : ℕ) → Moves B (red h) a q₁ → Answers h a q₁
  answers h s a q₁ k =
      let i = (targets-moves B (red h) a q₁).1 k in
      let y = entries-answer B F m t rest s a q₁ i in
      let e = entries-reply B F m t rest s a q₁ i in
      let b = pended m (accepts B q₁) (eased m (accepts B (f h)) (owing B m h)) in
      let next = subst (λ (r' : ℕ). Entries B m t (eased m (accepts B r') b) q₁ r' y.rank) e y.held in
      record {
        move = (targets-moves B (f h) a (f (round h (f h) a q₁))).0 (subst (λ (r' : ℕ). Memᴰ r' (targets B (f h) a)) e y.move);
        held = own next;
        fall = λ z. omega (arith, y.fall z, next.is);
      }

  pub held : (h : History) → KeepsTo B f q h → Held h
  held (first q₀) k =
      subst (λ (s : ℕ). Held (first s)) (sym k)
      (subst (λ (b : ℕ). Entries B m t b q r (at t (number B m (spoiler b q r)))) (owed-round m (accepts B q) (accepts B r)) (own start.1))
  held (round h q' a q₁) k = subst (λ (s : ℕ). Held (round h s a q₁)) (sym k.1) (answers h (held h k.0) a q₁ k.2).held

  pub follows : Strategy B f q r
  follows = record {
    begins = refl;
    answers = λ h q' a q₁ k. subst (λ (s : ℕ). Moves B s a (f (round h s a q₁))) (sym k.1) (answers h (held h k.0) a q₁ k.2).move;
  }

  -- ---- on an infinite play, while there is always a count or a reset to come there is always a reset to come

  module _ (π : Run B) (e : π.state zero ≡ q) where
    abbrev pub counts : ℕ → ℕ
    counts i = let h = up_to f π i in counting_at B m (standing B m h (f h))

    abbrev pub resets : ℕ → ℕ
    resets i = let h = up_to f π i in resetting_at B m (standing B m h (f h))

    fall : (i : ℕ) → resets i ≡ 0 → counts i + entry (up_to f π (suc i)) ≤ entry (up_to f π i)
    fall i = (answers (up_to f π i) (held (up_to f π i) (up_to_keeps f π q e i)) (π.letter i) (π.state (suc i)) (up_to_keeps f π q e (suc i)).2).fall

    pub resets_come : Often (λ i. (0 < counts i) ⊎ (0 < resets i)) → Often (λ i. 0 < resets i)
    resets_come = relief_comes counts resets (λ i. entry (up_to f π i)) fall

    pub resets_come_classically : ((n : ℕ) → Classically (λ i. (0 < counts i) ⊎ (0 < resets i)) n) → (n : ℕ) → Classically (λ i. 0 < resets i) n
    resets_come_classically = relief_comes_classically counts resets (λ i. entry (up_to f π i)) fall
