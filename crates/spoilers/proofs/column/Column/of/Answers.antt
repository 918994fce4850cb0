-- `spoilers::column::Column::of` meets its contract: each part is what it is called, and within the limits every product and sum is small.
use Rattle.std.proofs.Common.{refl}
use Rattle.words.proofs.Sets.{minus-sub}
use Rattle.spoilers.proofs.Members.{below_in}
use Rattle.spoilers.proofs.column.Column.of.Goals as goal

pub returns : goal.returns
returns c = (
  record {
    known = c.requires.known;
    bit = c.requires.column_in_game.0;
    owing = c.pended-owing.ensures;
    blue = c.requires.column_in_game.1;
    states = λ x i. below_in c.below.ensures x (minus-sub c.minus.ensures x i);
    others = λ x h o. c.minus.ensures.keep x (c.below.ensures.each x h) o;
    plain = refl;
    marked = refl;
    asking = c.rule_of.ensures;
  },
  refl,
  refl,
)
