-- What the first sweep works with: lists at the limits, in which nothing is noted or marked.
use Rattle.std.proofs.Common.{List, ℕ, ◌+◌, ◌*◌, ◌≤◌, mul-le-mul, arith, replicate}
use lib.ListN.{length-replicate}
use Rattle.words.proofs.Digits.{dig-zero}
use Rattle.automaton.specs.declared.Mode.{Mode}
use Rattle.automaton.specs.Board.{Board, Formed}
use Rattle.automaton.specs.Limits.{most_states, most_letters}
use Rattle.arena.specs.declared.game.Game.{Game}
use Rattle.arena.specs.Game.{board, Playable}
use Rattle.halves.specs.Drawn.{Accepting, Into, Onto}
use Rattle.halves.specs.Rising.{Blank}
use Rattle.halves.proofs.Drawing.{zeros-empty}
use Rattle.sweep.specs.Poised.{Equipped}

-- a word for each state and letter, at the limits
pub words-most : (B : Board) → Formed B → B.n * B.k ≤ most_states * most_letters
words-most B F = mul-le-mul {n₂ = most_states} {m₂ = most_letters} F.few F.few_letters

pub blank-zeros : (B : Board) (m : Mode) (c : ℕ) → Blank B m (replicate c 0)
blank-zeros B m c b q r hb hq hr = rw (zeros-empty c (b * B.n + q)) (dig-zero r)

-- lists at the limits
pub equipped_first : (g : Game) (t : List ℕ) {acc : ℕ} {into onto : List ℕ} {old : ℕ} → Playable g t → Accepting (board g) acc
    → Into (board g) into → Onto (board g) onto
    → Equipped g t acc into onto (replicate (2 * most_states) 0) (replicate 2 0) (replicate (2 * most_states) old) (replicate (2 * (most_states * most_letters)) 0) (replicate 2 0)
equipped_first g t {old = old} ready acc before after = record {
  ready = ready;
  accepting = acc;
  before = before;
  after = after;
  for_risen = rw (length-replicate {A = ℕ} (2 * most_states) 0) (omega (arith, ready.formed.few));
  for_rows = omega arith;
  for_olds = rw (length-replicate {A = ℕ} (2 * most_states) old) (omega (arith, ready.formed.few));
  for_grown = rw (length-replicate {A = ℕ} (2 * (most_states * most_letters)) 0) (mul-le-mul {n₂ = 2 * most_states} {m₂ = most_letters} (omega (arith, ready.formed.few)) ready.formed.few_letters);
  for_columns = omega arith;
}
