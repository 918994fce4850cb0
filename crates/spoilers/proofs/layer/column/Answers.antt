-- `spoilers::layer::column` meets its contract. The invariant: all that is marked by the letters below a is heeded, and those that have had the greatest entry have what it gives.
use Rattle.std.proofs.Common.{arith}
use Rattle.words.proofs.Sets.{empty}
use Rattle.arena.specs.Game.{board}
use Rattle.spoilers.proofs.Parts.{pushed_none, pushed_then, working_kept, raising-most}
use Rattle.spoilers.proofs.Pushes.{lettered_kept, column-done, column-calm}
use Rattle.spoilers.proofs.Through.{upto_start, upto_more}
use Rattle.spoilers.proofs.layer.column.Goals as goal

pub returns-then-c-game : goal.returns-then-c-game
returns-then-c-game c = record { pushed = pushed_none (board c.args.game.now) c.args.game.now.arena.mode _; columned = λ a ha x hx i. column-calm c.requires.working c.of-c.ensures c.if-c-game.true a x }

pub loop-a-init : goal.loop-a-init
loop-a-init c = (upto_start _, λ q i. absurd (empty q i))

pub letter-raised-requires-clause-working : goal.letter-raised-requires-clause-working
letter-raised-requires-clause-working c = let done = c.loop-a.invariant.0 in working_kept c.requires.working done.pushed done.sized

pub overflow_add-raised : goal.overflow_add-raised
overflow_add-raised c = omega (arith, raising-most c.requires.working.raising (pushed_then (board c.args.game.now) c.args.game.now.arena.mode c.loop-a.invariant.0.pushed c.letter-raised.ensures.pushed))

pub loop-a-preserved : goal.loop-a-preserved
loop-a-preserved c = (
  upto_more c.loop-a.invariant.0 c.letter-raised.ensures.pushed (record { risen = c.letter-raised.auto.risen; rows = c.letter-raised.auto.rows; olds = c.letter-raised.auto.olds })
      c.letter-raised.ensures.lettered (lettered_kept _ _ c.letter-raised.ensures.pushed c.args.grown.now c.of-c.result.bit c.of-c.result.blue),
  c.letter-raised.ensures.still_guarded,
)

pub returns : goal.returns
returns c = record { pushed = c.loop-a.invariant.0.pushed; columned = column-done c.loop-a.table c.args.grown.now c.of-c.ensures (λ a h. c.loop-a.invariant.0.each a (omega arith)) }
