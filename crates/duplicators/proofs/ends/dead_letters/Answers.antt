-- `duplicators::ends::dead_letters` meets its contract: the first a words are found, and `any` has what they hold.
use Rattle.std.proofs.Common.{ℕ, arith}
use Rattle.words.specs.Word.{In}
use Rattle.words.proofs.Sets.{joined_in_left, joined_in_right}
use Rattle.levels.proofs.Stored.{stored}
use Rattle.duplicators.specs.Ends.{Dead}
use Rattle.duplicators.proofs.ends.dead_letters.Goals as goal

pub loop-a-preserved : goal.loop-a-preserved
loop-a-preserved c =
    let words = c.loop-a.word-items in
    let a = c.loop-a.a in
    let dead = c.dead_letter.result in (
      stored (λ i w. Dead c.args.onto.now c.args.k i c.args.n w) words a dead (omega arith) c.loop-a.invariant.0 c.dead_letter.ensures,
      λ i r h. stored (λ i w. (r : ℕ) → In r w → In r c.join-any.result) words a dead (omega arith)
          (λ i h r x. joined_in_left c.join-any.ensures r (c.loop-a.invariant.1 i r h x)) (λ r x. joined_in_right c.join-any.ensures r x) i h r,
    )
