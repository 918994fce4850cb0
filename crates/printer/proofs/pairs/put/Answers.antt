-- `pairs::put` meets its contract: the lines of the pairs left, put from here on, end and lie where all of them do.
use Rattle.std.proofs.Common.{◌≡◌, ◌∙◌, List, [], ℕ, ◌+◌, ◌-◌, ◌*◌, ◌<◌, ap, arith, get_or, length, sym, zero-add}
use Rattle.fields.proofs.Laid.{laid_none, stop-none}
use Rattle.simulation.specs.Answers.{byte_at, relation}
use Rattle.simulation.proofs.Listed.{map_at}
use Rattle.simulation.proofs.Relation.{relation_length}
use Rattle.arena.specs.declared.seating.Seating.{Seating}
use Rattle.arena.specs.Seats.{bare}
use Rattle.printer.specs.Printed.{pair_line, pair_lines_from}
use Rattle.printer.proofs.Left.{left-all, left_as, left-next, left-none}
use Rattle.printer.proofs.PairLines.{lines-done, lines-one, lines_none}
use Rattle.printer.proofs.pairs.put.Goals.{then-byte-eq1, else-byte-eq1}
use Rattle.printer.proofs.pairs.put.Goals as goal

pub loop-i-init : goal.loop-i-init
loop-i-init c =
    let s = c.args.seats.now in
    let n = s.arena.states * s.arena.states in
    let from = pair_lines_from (bare s.arena s.marks.now) s.arena.mode s.table.now 0 in
    let none : n ≡ n - 0 = omega arith in
    left_as (left-all c.args.at (from n) c.args.out.now) (from (n - 0)) (ap from none)

-- a byte for each pair
module _ (s : Seating) (related : List ℕ) (r : related ≡ relation (bare s.arena s.marks.now) s.arena.mode s.table.now) where
  as_many : length related ≡ s.arena.states * s.arena.states
  as_many = ap length r ∙ relation_length (bare s.arena s.marks.now) s.arena.mode s.table.now

  byte-is : (i : ℕ) → i < length related → get_or related i 0 ≡ byte_at (bare s.arena s.marks.now) s.arena.mode s.table.now i
  byte-is i h =
      let byte = byte_at (bare s.arena s.marks.now) s.arena.mode s.table.now in
      ap (λ (l : List ℕ). get_or l i 0) r ∙ map_at byte 0 (s.arena.states * s.arena.states) i (omega (arith, as_many, h)) ∙ ap byte (zero-add i)

pub put_one-to-requires : goal.put_one-to-requires
put_one-to-requires c = record { i_bound = omega (arith, c.loop-i-test.true, as_many c.args.seats.now c.args.related.now c.requires.related_value) }

pub loop-i-preserved : goal.loop-i-preserved
loop-i-preserved c =
    let s = c.args.seats.now in
    let B = bare s.arena s.marks.now in
    let i = c.loop-i.i in
    let n = s.arena.states * s.arena.states in
    let inside : i < n = omega (arith, c.loop-i-test.true, as_many s c.args.related.now c.requires.related_value) in
    let byte = byte-is s c.args.related.now c.requires.related_value i c.loop-i-test.true in
    let more = pair_lines_from B s.arena.mode s.table.now (i + 1) (n - (i + 1)) in
    elim c.if-byte-eq1.branch [
      | then-byte-eq1 w ↦ left-next c.loop-i.invariant (pair_line B s.arena.mode s.table.now i) more (lines-one B s.arena.mode s.table.now n i inside (sym byte ∙ w.if-byte-eq1.true))
          c.if-byte-eq1.to c.if-byte-eq1.out (w.to-is ∙ w.put_one-to.ensures.value) (w.out-is ∙ w.put_one-to.ensures.out_after)
      | else-byte-eq1 w ↦ left-next c.loop-i.invariant [] more (lines_none B s.arena.mode s.table.now n i inside (λ e. w.if-byte-eq1.false (byte ∙ e)))
          c.if-byte-eq1.to c.if-byte-eq1.out (w.to-is ∙ sym (stop-none c.loop-i.to c.loop-i.out)) (w.out-is ∙ sym (laid_none c.loop-i.to c.loop-i.out))
    ]

pub returns : goal.returns
returns c =
    let s = c.args.seats.now in
    let all = as_many s c.args.related.now c.requires.related_value in
    let both = left-none c.loop-i.invariant (lines-done (bare s.arena s.marks.now) s.arena.mode s.table.now (s.arena.states * s.arena.states) c.loop-i.i (omega (arith, c.loop-i-test.false, all))) in
    record { value = both.0; out_after = both.1 }
