-- One more member in one word of a list of sets.
use Rattle.std.proofs.Common.{◌≡◌, List, ℕ, ◌<◌, length, set, length-set, get_or-set_same, get_or-set_other}
use native.Mathlib.Decide.{ℕ_discrete}
use Rattle.games.specs.Game.{at}
use Rattle.words.specs.Word.{In, With}
use Rattle.words.proofs.Sets.{with_old}
use Rattle.automaton.specs.Board.{Board}
use Rattle.halves.specs.Rising.{column}
use Rattle.duplicators.specs.Growing.{MarkedToo}

put-here : (l : List ℕ) (j y word : ℕ) → j < length l → With (at l j) y word → In y (at (set l j word) j)
put-here l j y word h w = rw (get_or-set_same l j word 0 h) w.here

put-kept : (l : List ℕ) (j y word : ℕ) → j < length l → With (at l j) y word → (i x : ℕ) → In x (at l i) → In x (at (set l j word) i)
put-kept l j y word h w i x k = go (ℕ_discrete i j)
  where
    go : Dec (i ≡ j) → In x (at (set l j word) i)
    go (yes e) = rw (e, get_or-set_same l j word 0 h) (with_old w x (rw e at k))
    go (no n) = rw (get_or-set_other l j i word 0 n) k

pub mark_made : (B : Board) (grown columns : List ℕ) (b q r a word sets : ℕ) → column B b r a < length grown → b < length columns
    → With (at grown (column B b r a)) q word → With (at columns b) r sets → MarkedToo B grown columns (set grown (column B b r a) word) (set columns b sets) b q r a
mark_made B grown columns b q r a word sets hg hc wg wc = record {
  words = length-set grown (column B b r a) word;
  sets = length-set columns b sets;
  here = (put-here grown (column B b r a) q word hg wg, put-here columns b r sets hc wc);
  kept = λ c x y z i. (put-kept grown (column B b r a) q word hg wg (column B c y z) x i.0, put-kept columns b r sets hc wc c y i.1);
}
