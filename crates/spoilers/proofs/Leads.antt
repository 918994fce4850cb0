-- Where the moves into a column come from: the entries they lead to, and the words that mark them.
use Rattle.std.proofs.Common.{◌≡◌, refl, sym, ap, ◌∙◌, ◌⊎◌, inl, inr, ⊎_elim, Bool, true, false, cond, List, ℕ, ◌+◌, ◌*◌, ◌<◌, add-mul, mul_assoc, arith, eqb, eq-eqb, ne_eqb}
use Rattle.games.specs.Game.{at}
use Rattle.words.specs.Word.{dig, In, Met, Joined, Below}
use Rattle.words.proofs.Sets.{in_or-out, met_in, met_right, joined_in_left, joined_in_right, joined-cases}
use Rattle.automaton.specs.declared.Mode.{Mode}
use Rattle.automaton.specs.declared.Mode.TheVariants.{Ordinary, Direct, Delayed, Fair}
use Rattle.automaton.specs.Board.{Board, accepts}
use Rattle.simulation.specs.Rules.{pended}
use Rattle.arena.specs.declared.game.Game.{Game}
use Rattle.arena.specs.Game.{board}
use Rattle.halves.specs.Drawn.{Accepting}
use Rattle.halves.specs.Rising.{column}
use Rattle.halves.specs.Half.{challenged}
use Rattle.spoilers.specs.declared.column.Column.{Column}
use Rattle.spoilers.specs.Shape.{Shaped}
use Rattle.spoilers.specs.Front.{Source, Sources, Columns}
use Rattle.spoilers.proofs.Members.{below_in}
use Rattle.spoilers.proofs.Asks.{accepting_in, accepting-out}

-- a move to a state that does not accept leaves the bit
pub pended-plain : (m : Mode) (b : ℕ) → pended m false b ≡ b
pended-plain Ordinary b = refl
pended-plain Direct b = refl
pended-plain Delayed b = refl
pended-plain Fair b = refl

-- from where a column's entries begin, n·k entries on for each state
block_plus : (n k s x r : ℕ) → (s + r) * k + x * (n * k) ≡ (s + x * n + r) * k
block_plus n k s x r = omega (arith, add-mul s r k, add-mul (s + x * n) r k, add-mul s (x * n) k, mul_assoc x n k)

module _ (g : Game) (c : Column) (s : Shaped g c) where
  abbrev B : Board
  B = board g

  abbrev m : Mode
  m = g.arena.mode

  abbrev acc : ℕ
  acc = c.accepting

  abbrev sure : Accepting B acc
  sure = s.known.accepting

  -- the bit after a move to x
  bit_in : (x : ℕ) → x < B.n → In x acc → c.owing ≡ pended m (accepts B x) c.bit
  bit_in x h i = s.owing ∙ ap (λ (t : Bool). pended m t c.bit) (sym (accepting_in B acc sure x h i))

  bit-out : (x : ℕ) → x < B.n → dig acc x ≡ 0 → c.bit ≡ pended m (accepts B x) c.bit
  bit-out x h o = sym (pended-plain m c.bit) ∙ ap (λ (t : Bool). pended m t c.bit) (sym (accepting-out B acc sure x h o))

  pub leads : (x a : ℕ) → x < B.n → cond (eqb (dig acc x) 1) c.marked c.plain + x * (B.n * B.k) + a ≡ challenged B m c.bit c.blue x a
  leads x a h = go (in_or-out acc x)
    where
      from : (b : ℕ) → b ≡ pended m (accepts B x) c.bit → (base : ℕ) → base ≡ g.arena.pairs + (b * (B.n * B.n) + c.blue) * B.k
          → base + x * (B.n * B.k) + a ≡ challenged B m c.bit c.blue x a
      from b e base d = rw (← e) (omega (arith, d, s.known.paired, block_plus B.n B.k (b * (B.n * B.n)) x c.blue))

      go : In x acc ⊎ (dig acc x ≡ 0) → cond (eqb (dig acc x) 1) c.marked c.plain + x * (B.n * B.k) + a ≡ challenged B m c.bit c.blue x a
      go (inl i) = rw (eq-eqb (dig acc x) 1 i) (from c.owing (bit_in x h i) c.marked s.marked)
      go (inr o) = rw (ne_eqb (dig acc x) 1 (λ e. omega arith)) (from c.bit (bit-out x h o) c.plain s.plain)

  -- the states of both words, each taken from the word of the bit that a move to it leaves
  pub sources_made : (grown : List ℕ) (a p l p' l' r : ℕ) → p ≡ at grown (column B c.bit c.blue a) → l ≡ at grown (column B c.owing c.blue a)
      → Met p c.others p' → Met l acc l' → Joined p' l' r → Sources B m grown c.bit c.blue a r
  sources_made grown a p l p' l' r ep el mp ml j = record {
    states = λ x i. ⊎_elim (λ k. s.states x (met_right mp x k)) (λ k. sure.states x (met_right ml x k)) (joined-cases j x i);
    all = λ x h i. all x h i (in_or-out acc x);
  }
    where
      held : (x b : ℕ) → b ≡ pended m (accepts B x) c.bit → Source B m grown c.bit c.blue a x → In x (at grown (column B b c.blue a))
      held x b e i = rw e i

      all : (x : ℕ) → x < B.n → Source B m grown c.bit c.blue a x → In x acc ⊎ (dig acc x ≡ 0) → In x r
      all x h i (inl k) = joined_in_right j x (met_in ml x (rw el (held x c.owing (bit_in x h k) i)) k)
      all x h i (inr o) = joined_in_left j x (met_in mp x (rw ep (held x c.bit (bit-out x h o) i)) (s.others x h o))

-- the columns of both words, as far as they are of the automaton
pub columns_made : (B : Board) (m : Mode) (columns : List ℕ) (b p l j n r : ℕ) → p ≡ at columns b → l ≡ at columns (pended m true b) → Joined p l j → Below B.n n → Met j n r
    → Columns B m columns b r
columns_made B m columns b p l j n r ep el both below met = record {
  states = λ x i. below_in below x (met_right met x i);
  all = λ x h t i. met_in met x (all x t i) (below.each x h);
}
  where
    all : (x : ℕ) (t : Bool) → In x (at columns (pended m t b)) → In x j
    all x true i = joined_in_right both x (rw el i)
    all x false i = joined_in_left both x (rw ep (rw (pended-plain m b) at i))
