-- What a sweep works with: of the table and of what is noted and marked, only the lengths matter.
use Rattle.std.proofs.Common.{◌≡◌, refl, ◌∙◌, List, ℕ, ◌*◌, ◌≤◌, length, arith, mul-le-mul}
use Rattle.simulation.specs.Position.{layers}
use Rattle.simulation.proofs.Limits.{layers-most}
use Rattle.arena.specs.declared.game.Game.{Game}
use Rattle.arena.specs.Game.{board}
use Rattle.arena.proofs.Open.{ready-again}
use Rattle.halves.specs.Rising.{Roomy, Spacious, rising}
use Rattle.sweep.specs.Poised.{Equipped}

module _ {g : Game} {acc : ℕ} {into onto table risen rows olds grown columns : List ℕ} (e : Equipped g table acc into onto risen rows olds grown columns) where
  -- ---- after one of its halves

  pub noted_again : {table' risen' rows' olds' : List ℕ} → length table' ≡ length table → length risen' ≡ length risen → length rows' ≡ length rows → length olds' ≡ length olds
      → Equipped g table' acc into onto risen' rows' olds' grown columns
  noted_again t ri ro ol = record {
    ready = ready-again g.arena g.marks.now g.moves.now table _ e.ready t;
    accepting = e.accepting;
    before = e.before;
    after = e.after;
    for_risen = omega (arith, e.for_risen, ri);
    for_rows = omega (arith, e.for_rows, ro);
    for_olds = omega (arith, e.for_olds, ol);
    for_grown = e.for_grown;
    for_columns = e.for_columns;
  }

  pub marked_again : {table' grown' columns' : List ℕ} → length table' ≡ length table → length grown' ≡ length grown → length columns' ≡ length columns
      → Equipped g table' acc into onto risen rows olds grown' columns'
  marked_again t gr co = record {
    ready = ready-again g.arena g.marks.now g.moves.now table _ e.ready t;
    accepting = e.accepting;
    before = e.before;
    after = e.after;
    for_risen = e.for_risen;
    for_rows = e.for_rows;
    for_olds = e.for_olds;
    for_grown = omega (arith, e.for_grown, gr);
    for_columns = omega (arith, e.for_columns, co);
  }

  -- ---- room for what is noted and marked

  rows-most : layers g.arena.mode * g.arena.states ≤ 2 * g.arena.states
  rows-most = mul-le-mul {m₁ = g.arena.states} {n₂ = 2} {m₂ = g.arena.states} (layers-most g.arena.mode) (omega arith)

  pub roomy_of : Roomy (board g) g.arena.mode (rising table risen rows olds)
  roomy_of = record {
    risen = omega (arith, rows-most, e.for_risen);
    rows = omega (arith, layers-most g.arena.mode, e.for_rows);
    olds = omega (arith, rows-most, e.for_olds);
  }

  pub spacious_of : Spacious (board g) g.arena.mode grown columns
  spacious_of = record {
    words = omega (arith, mul-le-mul {m₁ = g.arena.letters} {n₂ = 2 * g.arena.states} {m₂ = g.arena.letters} rows-most (omega arith), e.for_grown);
    sets = omega (arith, layers-most g.arena.mode, e.for_columns);
  }

-- ---- from sweep to sweep

-- the six lists that a sweep writes
pub record Lists : Type 0 where
  pub table : List ℕ
  pub risen : List ℕ
  pub rows : List ℕ
  pub olds : List ℕ
  pub grown : List ℕ
  pub columns : List ℕ

abbrev pub lists : (table risen rows olds grown columns : List ℕ) → Lists
lists table risen rows olds grown columns = record { table = table; risen = risen; rows = rows; olds = olds; grown = grown; columns = columns }

-- each list of m is as long as that of l
pub record Alike (l m : Lists) : Type 0 where
  pub like_table : length m.table ≡ length l.table
  pub like_risen : length m.risen ≡ length l.risen
  pub like_rows : length m.rows ≡ length l.rows
  pub like_olds : length m.olds ≡ length l.olds
  pub like_grown : length m.grown ≡ length l.grown
  pub like_columns : length m.columns ≡ length l.columns

pub alike : {l m : Lists} → length m.table ≡ length l.table → length m.risen ≡ length l.risen → length m.rows ≡ length l.rows
    → length m.olds ≡ length l.olds → length m.grown ≡ length l.grown → length m.columns ≡ length l.columns → Alike l m
alike t ri ro ol gr co = record { like_table = t; like_risen = ri; like_rows = ro; like_olds = ol; like_grown = gr; like_columns = co }

pub alike_none : {l : Lists} → Alike l l
alike_none = alike refl refl refl refl refl refl

pub alike_more : {l m w : Lists} → Alike l m → Alike m w → Alike l w
alike_more a b = record {
  like_table = b.like_table ∙ a.like_table;
  like_risen = b.like_risen ∙ a.like_risen;
  like_rows = b.like_rows ∙ a.like_rows;
  like_olds = b.like_olds ∙ a.like_olds;
  like_grown = b.like_grown ∙ a.like_grown;
  like_columns = b.like_columns ∙ a.like_columns;
}

pub equipped_again : {g : Game} {into onto : List ℕ} {acc : ℕ} {l m : Lists}
    → Equipped g l.table acc into onto l.risen l.rows l.olds l.grown l.columns → Alike l m
    → Equipped g m.table acc into onto m.risen m.rows m.olds m.grown m.columns
equipped_again e a = marked_again (noted_again e a.like_table a.like_risen a.like_rows a.like_olds) refl a.like_grown a.like_columns
