-- An automaton that `check` accepts is within the limits that the sets are made for.
use Rattle.std.proofs.Common.{arith}
use Rattle.std.proofs.Math.Nat.{mul-le-mul}
use Rattle.automaton.specs.Board.{board_of, Formed}
use Rattle.second.proofs.Checked.{formed}
use Rattle.second.proofs.relation.Goals as goal

pub overflow_mul-a : goal.overflow_mul-a
overflow_mul-a c =
    let F : Formed (board_of c.args.a c.args.marks.now c.args.moves.now) = formed _ _ c.in_ok-check.ensures in
    omega (arith, mul-le-mul {n₂ = 64} {m₂ = 64} F.few F.few)

pub accepting-requires : goal.accepting-requires
accepting-requires c =
    let F : Formed (board_of c.args.a c.args.marks.now c.args.moves.now) = formed _ _ c.in_ok-check.ensures in
    omega (arith, F.few, F.marked)

pub put_moves-requires : goal.put_moves-requires
put_moves-requires c =
    let F : Formed (board_of c.args.a c.args.marks.now c.args.moves.now) = formed _ _ c.in_ok-check.ensures in
    λ i h. (omega (arith, F.inside i h, F.few), omega (arith, F.inside i h, F.few_letters), omega (arith, F.inside i h, F.few))

pub invariant_of-rules : goal.invariant_of-rules
invariant_of-rules c =
    let F : Formed (board_of c.args.a c.args.marks.now c.args.moves.now) = formed _ _ c.in_ok-check.ensures in
    record { few_states = F.few; few_letters = F.few_letters }

pub write-requires-clause-states_nonzero : goal.write-requires-clause-states_nonzero
write-requires-clause-states_nonzero c = (formed (board_of c.args.a c.args.marks.now c.args.moves.now) _ c.in_ok-check.ensures).states
