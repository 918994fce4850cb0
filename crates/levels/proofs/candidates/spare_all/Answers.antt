-- `levels::candidates::spare_all` meets its contract: the first a words are spared, the others as they were, and `any` has what is left.
use Rattle.std.proofs.Common.{◌≡◌, ◌∙◌, ℕ, length-take-le, get_or-set_other, arith}
use Rattle.games.specs.Game.{at}
use Rattle.words.specs.Word.{In}
use Rattle.words.proofs.Sets.{joined_in_left, joined_in_right}
use Rattle.levels.specs.Candidates.{Spared}
use Rattle.levels.proofs.Stored.{stored}
use Rattle.levels.proofs.candidates.spare_all.Goals as goal

pub loop-a-preserved : goal.loop-a-preserved
loop-a-preserved c =
    let words = c.loop-a.word-items in
    let a = c.loop-a.a in
    let left = c.spare.result in
    let was : at words a ≡ at c.args.found.now a = c.loop-a.invariant.1 a (omega arith) (omega (arith, length-take-le c.args.k c.args.found.now)) in (
      stored (λ i w. Spared c.args.into.now c.args.k c.args.low i (at c.args.found.now i) w) words a left (omega arith) c.loop-a.invariant.0 (rw was at c.spare.ensures),
      λ i h l. get_or-set_other words a i left 0 (λ e. omega arith) ∙ c.loop-a.invariant.1 i (omega arith) l,
      λ i r h. stored (λ i w. (r : ℕ) → In r w → In r c.join-any.result) words a left (omega arith)
          (λ i h r x. joined_in_left c.join-any.ensures r (c.loop-a.invariant.2 i r h x)) (λ r x. joined_in_right c.join-any.ensures r x) i h r,
    )
