-- `fill::fill` meets its contract: the lines left mark and lay, from here on, what all lines do from the start.
use Rattle.std.proofs.Common.{◌≡◌, ◌-◌, ◌≤◌, length, drop}
use Rattle.fields.specs.Bytes.{laid}
use Rattle.lines.specs.Lines.{lines_of}
use Rattle.text.specs.Text.{accepts, moves as moves_of, marked}
use Rattle.text.specs.Fill.{bytes}
use Rattle.text.proofs.fill.fill.Given as goal

abbrev pub invariant-loop-at : goal.invariant-loop-at
invariant-loop-at l = record {
  within : l.at ≤ length l.text;
  marked_left : marked (accepts (lines_of (drop l.at l.text))) l.marks ≡ marked (accepts (lines_of l.text)) l.initial.marks;
  laid_left : laid l.to (bytes (moves_of (lines_of (drop l.at l.text)))) l.moves ≡ laid 0 (bytes (moves_of (lines_of l.text))) l.initial.moves;
}

abbrev pub decreases-loop-at : goal.decreases-loop-at
decreases-loop-at l = length l.text - l.at
