-- `survey::lines` meets its contract: the lines left, surveyed with what is known so far, say what all lines say.
use Rattle.std.proofs.Common.{None, ◌≡◌, ◌+◌, ◌-◌, ◌≤◌, length, drop}
use Rattle.lines.specs.Lines.{lines_of}
use Rattle.text.specs.Survey.{Few, surveyed, blank}
use Rattle.text.proofs.survey.lines.Given as goal

abbrev pub invariant-loop-at : goal.invariant-loop-at
invariant-loop-at l = record {
  within : l.at ≤ length l.text;
  numbered : l.number ≤ l.at + 1;
  few : Few l.known l.at;
  left : surveyed l.before l.number l.known (lines_of (drop l.at l.text)) ≡ surveyed None 1 blank (lines_of l.text);
}

abbrev pub decreases-loop-at : goal.decreases-loop-at
decreases-loop-at l = length l.text - l.at
