-- `arena::top` meets its contract: f is at most n and n at most 64, so nothing wraps and T fits four bytes.
use mathlib.Core.Path.{◌≡◌}
use mathlib.Core.List.{[]}
use Prim.Native.Nat.{ℕ, ◌≤◌}
use native.Mathlib.Omega.{arith}
use Rattle.automaton.specs.Board.{board_of}
use Rattle.simulation.specs.Rules.{ones}
use Rattle.simulation.proofs.Counting.{ones-most}
use Rattle.arena.proofs.top.Goals as goal

pub overflow_sub-result : goal.overflow_sub-result
overflow_sub-result c =
    let states : ℕ = c.args.a.states in
    let f : ℕ = c.ones-f.result in
    let f-is : f ≡ ones (board_of c.args.a c.args.marks.now []) = rw c.requires.marks_len at c.ones-f.ensures in
    let f-most : f ≤ states = omega (arith, f-is, ones-most (board_of c.args.a c.args.marks.now [])) in
    f-most

pub overflow_sub-result-in-Fair : goal.overflow_sub-result-in-Fair
overflow_sub-result-in-Fair c =
    let states : ℕ = c.args.a.states in
    let f : ℕ = c.ones-f.result in
    let f-is : f ≡ ones (board_of c.args.a c.args.marks.now []) = rw c.requires.marks_len at c.ones-f.ensures in
    let f-most : f ≤ states = omega (arith, f-is, ones-most (board_of c.args.a c.args.marks.now [])) in
    f-most
