-- The lines of the pairs from i on: that of pair i if its byte is 1, and those after it.
use Rattle.std.proofs.Common.{◌≡◌, refl, ap, ◌∙◌, ◌≢◌, Bool, true, false, cond, List, [], ◌++◌, ℕ, suc, ◌+◌, ◌-◌, ◌/◌, ◌%◌, ◌≤◌, ◌<◌, add-one, arith}
use Rattle.automaton.specs.declared.Mode.{Mode}
use Rattle.automaton.specs.Board.{Board}
use Rattle.simulation.specs.Answers.{below, byte_at}
use Rattle.simulation.specs.Rules.{bit}
use Rattle.simulation.proofs.Listed.{bit-one}
use Rattle.printer.specs.Printed.{pair_line, pair_lines_from}

chosen_none : (s : Bool) (l : List ℕ) → bit s ≢ 1 → cond s l [] ≡ []
chosen_none true l n = absurd (n refl)
chosen_none false l n = refl

module _ (B : Board) (m : Mode) (t : List ℕ) (c i : ℕ) where
  lines_step : i < c → pair_lines_from B m t i (c - i) ≡ cond (below B m t (i / B.n) (i % B.n)) (pair_line B m t i) [] ++ pair_lines_from B m t (i + 1) (c - (i + 1))
  unfolding pair_lines_from
  lines_step h = let left : c - i ≡ suc (c - (i + 1)) = omega arith in rw (left, add-one)

  pub lines-one : i < c → byte_at B m t i ≡ 1 → pair_lines_from B m t i (c - i) ≡ pair_line B m t i ++ pair_lines_from B m t (i + 1) (c - (i + 1))
  lines-one h e = lines_step h ∙ ap (λ (s : Bool). cond s (pair_line B m t i) [] ++ pair_lines_from B m t (i + 1) (c - (i + 1))) ((bit-one (below B m t (i / B.n) (i % B.n))).0 e)

  pub lines_none : i < c → byte_at B m t i ≢ 1 → pair_lines_from B m t i (c - i) ≡ pair_lines_from B m t (i + 1) (c - (i + 1))
  lines_none h e = lines_step h ∙ ap (λ (l : List ℕ). l ++ pair_lines_from B m t (i + 1) (c - (i + 1))) (chosen_none (below B m t (i / B.n) (i % B.n)) (pair_line B m t i) e)

  pub lines-done : c ≤ i → pair_lines_from B m t i (c - i) ≡ []
  unfolding pair_lines_from
  lines-done h = let none : c - i ≡ 0 = omega arith in rw none
