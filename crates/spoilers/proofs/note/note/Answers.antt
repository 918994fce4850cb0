-- `spoilers::note::note` meets its contract: it is noted already, or the three writes note it.
use Rattle.std.proofs.Common.{refl, inl, inr, arith}
use Rattle.games.specs.Game.{at}
use Rattle.spoilers.proofs.Members.{has_in, has-not}
use Rattle.spoilers.proofs.Writes.{lowered}
use Rattle.spoilers.proofs.note.note.Goals as goal

pub returns-then-has : goal.returns-then-has
returns-then-has c = let a = c.args in inr (refl, record { held = has_in (at a.risen.now a.i) a.r c.has.ensures c.if-has.true; risen = refl; rows = refl; olds = refl })

pub returns : goal.returns
returns c =
    let a = c.args in
    inl (
      refl,
      record {
        out = has-not (at a.risen.now a.i) a.r c.has.ensures c.if-has.false;
        risen = c.insert.ensures;
        rows = c.insert-2.ensures;
        olds = lowered a.olds.now a.i a.e c.min.result c.requires.1 (omega (arith, c.min.ensures)) (omega (arith, c.min.ensures));
      },
    )
