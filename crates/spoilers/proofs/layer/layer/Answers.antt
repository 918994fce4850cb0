-- `spoilers::layer::layer` meets its contract. The invariant: all that is marked for the columns that are not left is heeded.
use Rattle.std.proofs.Common.{arith}
use Rattle.words.specs.Word.{In}
use Rattle.automaton.specs.Board.{accepts}
use Rattle.simulation.proofs.Moves.{move-within}
use Rattle.arena.specs.Game.{board}
use Rattle.spoilers.proofs.Parts.{pushed_then, working_kept, raising-most}
use Rattle.spoilers.proofs.Pushes.{columned_kept}
use Rattle.spoilers.proofs.Through.{through_more, through_end}
use Rattle.spoilers.proofs.layer.layer.Goals as goal

pub column-raised-requires-clause-working : goal.column-raised-requires-clause-working
column-raised-requires-clause-working c = let done = c.loop-r.invariant in working_kept c.requires.working done.pushed done.sized

pub overflow_add-raised : goal.overflow_add-raised
overflow_add-raised c = omega (arith, raising-most c.requires.working.raising (pushed_then (board c.args.game.now) c.args.game.now.arena.mode c.loop-r.invariant.pushed c.column-raised.ensures.pushed))

pub loop-r-preserved : goal.loop-r-preserved
loop-r-preserved c =
    through_more c.loop-r.invariant c.in-Some.ensures.steps.1 c.column-raised.ensures.pushed (record { risen = c.column-raised.auto.risen; rows = c.column-raised.auto.rows; olds = c.column-raised.auto.olds })
    c.column-raised.ensures.columned (columned_kept _ _ c.column-raised.ensures.pushed c.args.grown.now c.args.b)

pub returns : goal.returns
returns c =
    record {
      pushed = c.loop-r.invariant.pushed;
      layered = λ r i x q hr marked move.
          let (hq, hi, hx) = move-within (board c.args.game.now) c.requires.known.formed q i x move in
          let known : In r c.stirred.result = c.stirred.ensures.all r hr (accepts (board c.args.game.now) x) marked.1 in
          let member : In r c.into_iter-r-iterator.result.left = rw (c.into_iter-r-iterator.ensures.into_iter_gives, c.members-r-items.ensures) known in
          through_end c.loop-r.invariant c.in-None.ensures.steps.0 r member i hi x hx marked.0 q move;
    }
