-- `spoilers::letter::letter` meets its contract. The invariant: the sources that are not left are heeded, and those that have had the greatest entry have what it gives.
use Rattle.std.proofs.Common.{arith}
use Rattle.arena.specs.Game.{board}
use Rattle.spoilers.proofs.Parts.{pushed_then, working_kept, raising-most}
use Rattle.spoilers.proofs.Pushes.{heard_kept}
use Rattle.spoilers.proofs.Through.{through_more, through_end}
use Rattle.spoilers.proofs.letter.letter.Goals as goal

pub push_one-raised-requires-clause-working : goal.push_one-raised-requires-clause-working
push_one-raised-requires-clause-working c = let done = c.loop-x.invariant.0 in working_kept c.requires.working done.pushed done.sized

pub overflow_add-raised : goal.overflow_add-raised
overflow_add-raised c = omega (arith, raising-most c.requires.working.raising (pushed_then (board c.args.game.now) c.args.game.now.arena.mode c.loop-x.invariant.0.pushed c.push_one-raised.ensures.pushed))

pub loop-x-preserved : goal.loop-x-preserved
loop-x-preserved c = (
  through_more c.loop-x.invariant.0 c.in-Some.ensures.steps.1 c.push_one-raised.ensures.pushed (record { risen = c.push_one-raised.auto.risen; rows = c.push_one-raised.auto.rows; olds = c.push_one-raised.auto.olds })
      c.push_one-raised.ensures.heard (heard_kept _ _ c.push_one-raised.ensures.pushed c.args.c.bit c.args.c.blue c.args.a),
  c.push_one-raised.ensures.still_guarded,
)

pub returns : goal.returns
returns c =
    let (done, guarded) = c.loop-x.invariant in
    record {
      pushed = done.pushed;
      still_guarded = guarded;
      lettered = λ x h i. through_end done c.in-None.ensures.steps.0 x (rw (c.into_iter-x-iterator.ensures.into_iter_gives, c.members-x-items.ensures) (c.sources.ensures.all x h i));
    }
