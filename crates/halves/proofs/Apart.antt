-- No step leads from one of Spoiler's positions to another of them, or from one of Duplicator's to another.
use Rattle.std.proofs.Common.{arith}
use Rattle.games.specs.Half.{Apart}
use Rattle.automaton.specs.declared.Mode.{Mode}
use Rattle.automaton.specs.Board.{Board, accepts, Formed}
use Rattle.simulation.specs.Position.{pairs, positions}
use Rattle.simulation.specs.Rules.{eased, game}
use Rattle.simulation.proofs.Moves.{move-within}
use Rattle.simulation.proofs.Inward.{eased_lt}
use Rattle.halves.proofs.Places.{pair-below, each-spoiler, each-duplicator}
use Rattle.halves.proofs.Steps.{spoiler_stepped, duplicator_stepped}

module _ (B : Board) (m : Mode) (F : Formed B) where
  pub spoilers_apart : Apart (game B m) 0 (pairs B m)
  spoilers_apart v w l h i l' h' =
      let (b, q, r, hb, hq, hr, e) = each-spoiler B m F v h in
      let (a, (x, (move, y))) = spoiler_stepped B m F b q r hb hq hr w (rw e at i) in
      omega arith

  pub duplicators_apart : Apart (game B m) (pairs B m) (positions B m)
  duplicators_apart v w l h i l' h' =
      let (b, q, r, a, hb, hq, hr, ha, e) = each-duplicator B m F v l h in
      let (x, (move, y)) = duplicator_stepped B m F b q r a hb hq hr ha w (rw e at i) in
      omega (arith, pair-below B m F (eased m (accepts B x) b) q x (eased_lt m (accepts B x) b hb) hq (move-within B F r a x move).2)
