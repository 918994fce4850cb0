-- `verdicts::pairs::fill` meets its contract: byte i is written and counted.
use Rattle.std.proofs.Common.{◌≡◌, Bool, true, false, List, ◌++◌, map, ℕ, ◌/◌, ◌%◌, set, drop, refl, ap, ◌∙◌, add-one, arith}
use mir.Val.{bool_byte}
use Rattle.games.specs.Settle.{ascending}
use Rattle.games.proofs.Count.{count_most}
use Rattle.simulation.specs.Answers.{below}
use Rattle.simulation.specs.Rules.{bit}
use Rattle.simulation.proofs.Listed.{written-more, bit-most}
use Rattle.arena.specs.Seats.{bare}
use Rattle.arena.proofs.Seats.{square_most}
use Rattle.verdicts.proofs.pairs.fill.Invariants.{byte}
use Rattle.verdicts.proofs.pairs.fill.Goals as goal

-- a bool written as a byte is its bit
byte_is : (b : Bool) → bool_byte b ≡ bit b
byte_is true = refl
byte_is false = refl

pub overflow_add-ones : goal.overflow_add-ones
overflow_add-ones c =
    let a = c.args in
    let f = byte a.seats.now.arena a.seats.now.marks.now a.seats.now.table.now in
    let few = count_most f (λ i. bit-most (below (bare a.seats.now.arena a.seats.now.marks.now) a.seats.now.arena.mode a.seats.now.table.now (i / a.seats.now.arena.states) (i % a.seats.now.arena.states))) c.loop-i.i in
    let square = square_most a.seats.now.arena a.seats.now.marks.now a.seats.now.table.now a.seats.now.seated in
    omega (arith, byte_is c.is_below-related.result, bit-most c.is_below-related.result)

pub loop-i-preserved : goal.loop-i-preserved
loop-i-preserved c =
    let a = c.args in
    let f = byte a.seats.now.arena a.seats.now.marks.now a.seats.now.table.now in
    let i = c.loop-i.i in
    let here = byte_is c.is_below-related.result ∙ ap bit c.is_below-related.ensures in (
      ap (λ (o : List ℕ). set o i c.from.result) c.loop-i.invariant.0
          ∙ ap (set (map f (ascending 0 i) ++ drop i a.out.now) i) (c.from.ensures ∙ here)
          ∙ written-more f i a.out.now (omega arith),
      rw (add-one i) (omega (arith, here)),
    )
