-- `halves::draw` meets its contract. The invariant: the moves so far are drawn in both lists of words, and nothing else is.
use Rattle.std.proofs.Common.{◌≡◌, length}
use Rattle.halves.proofs.Drawing.{DrawnInto, DrawnOnto}
use Rattle.halves.proofs.draw.Given as goal

abbrev pub invariant-loop-step : goal.invariant-loop-step
invariant-loop-step l =
    (length l.into ≡ length l.initial.into) × (length l.onto ≡ length l.initial.onto)
    × DrawnInto l.letters l.fn.game.moves.now l.step-index l.into × DrawnOnto l.letters l.fn.game.moves.now l.step-index l.onto
