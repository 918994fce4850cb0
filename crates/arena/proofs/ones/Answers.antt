-- `arena::ones` meets its contract: the marks that the test is true of are as many as the states that accept.
use Rattle.std.proofs.Common.{◌≡◌, refl, ◌∙◌, List, take, length, get_or, ℕ, zero, suc, ◌+◌, ◌≤◌, Bool, true, false, eqb, add-one, arith, rules}
use Rattle.std.specs.List.{count_by}
use Rattle.std.proofs.lemmas.List.Sums.{count_by_more_no, count_by_more_yes}
use Rattle.std.proofs.Math.Seq.{take-length}
use Rattle.games.specs.Play.{count}
use Rattle.simulation.specs.Rules.{bit}
use Rattle.arena.proofs.ones.Goals as goal

module _ (marks : List ℕ) where
  abbrev one_at : ℕ → ℕ
  one_at q = bit (eqb (get_or marks q 0) 1)

  counted : (i : ℕ) → i ≤ length marks → count_by (λ x. eqb x 1) (take i marks) ≡ count one_at i
  counted zero h = refl
  counted (suc i) h = go (eqb (get_or marks i 0) 1) refl (counted i (omega arith))
    where
      go : (s : Bool) → eqb (get_or marks i 0) 1 ≡ s → count_by (λ x. eqb x 1) (take i marks) ≡ count one_at i
          → count_by (λ x. eqb x 1) (take (suc i) marks) ≡ bit s + count one_at i
      go true e r = omega (arith, r, rw add-one at (count_by_more_yes (λ x. eqb x 1) marks i 0 (omega arith) e))
      go false e r = omega (arith, r, rw add-one at (count_by_more_no (λ x. eqb x 1) marks i 0 (omega arith) e))

pub returns : goal.returns
returns c =
    let found : c.count.result ≡ count_by (λ x. eqb x 1) c.args.marks.now = search rules in
    found ∙ rw take-length at (counted c.args.marks.now (length c.args.marks.now) (omega arith))
