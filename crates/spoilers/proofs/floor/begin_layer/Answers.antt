-- `spoilers::floor::begin_layer` meets its contract. The invariant: the columns below r have what they ask for with High 0.
use Rattle.std.proofs.Common.{le_trans, arith}
use Rattle.arena.specs.Game.{board}
use Rattle.spoilers.proofs.Parts.{pushed_then, raising-kept, raising-most}
use Rattle.spoilers.proofs.Through.{upto_start, upto_more}
use Rattle.spoilers.proofs.Floors.{floor-hits, floor-done}
use Rattle.spoilers.proofs.floor.begin_layer.Goals as goal

pub loop-r-init : goal.loop-r-init
loop-r-init c = upto_start _

pub put-raised-requires-clause-raising : goal.put-raised-requires-clause-raising
put-raised-requires-clause-raising c = let done = c.loop-r.invariant in raising-kept c.requires.raising done.pushed done.sized

pub put-raised-requires-clause-hits : goal.put-raised-requires-clause-hits
put-raised-requires-clause-hits c = floor-hits (board c.args.game.now) c.args.game.now.arena.mode c.args.b c.loop-r.r c.floor_of-hit.ensures c.requires.raising.ready.formed c.requires.bit_in_game (omega arith) c.loop-r.table

pub overflow_add-raised : goal.overflow_add-raised
overflow_add-raised c = omega (arith, raising-most c.requires.raising (pushed_then (board c.args.game.now) c.args.game.now.arena.mode c.loop-r.invariant.pushed c.put-raised.ensures.pushed))

pub loop-r-preserved : goal.loop-r-preserved
loop-r-preserved c =
    upto_more c.loop-r.invariant c.put-raised.ensures.pushed (record { risen = c.put-raised.auto.risen; rows = c.put-raised.auto.rows; olds = c.put-raised.auto.olds })
    (floor-done (board c.args.game.now) c.args.game.now.arena.mode c.args.b c.loop-r.r c.floor_of-hit.ensures c.put-raised.new.table c.put-raised.ensures.holds)
    (λ y h q i. le_trans (h q i) (c.put-raised.ensures.pushed.grown _))

pub returns : goal.returns
returns c = record { pushed = c.loop-r.invariant.pushed; all_floored = λ r h. c.loop-r.invariant.each r (omega arith) }
