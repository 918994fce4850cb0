-- `asks::index::fill` meets its contract. The invariant: the entries below x are the places of their keys, and the moves before i have
-- keys below x.
use native.Mathlib.Omega.{arith}
use borrow.Author.Rules.{rules}
use Rattle.asks.proofs.Keys.{Begins, begins_found, begins_stored}
use Rattle.asks.proofs.index.fill.Goals as goal

pub loop-x-preserved : goal.loop-x-preserved
loop-x-preserved c =
    let a = c.args in
    let so-far = c.loop-x.invariant in
    let found : Begins a.letters a.moves.now c.loop-x.x c.reach-i.result =
    rw c.reach-i.ensures (begins_found a.letters a.moves.now c.requires.ascending c.loop-x.x c.loop-x.i so-far.reached so-far.under) in
    record {
      reached = omega (arith, found.inside);
      places = search rules;
      under = λ j l. omega (arith, found.under j l);
      begun = begins_stored a.letters a.moves.now c.loop-x.begins c.loop-x.x c.reach-i.result (omega (arith, c.requires.keys_have_places)) so-far.begun found;
    }
