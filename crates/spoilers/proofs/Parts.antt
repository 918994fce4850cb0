-- The parts of Spoiler's half one after the other: what each keeps, and that they compose.
use Rattle.std.proofs.Common.{◌≡◌, refl, subst, ◌∙◌, List, ℕ, ◌+◌, ◌≤◌, ◌<◌, le_refl, le_trans, arith, length}
use mathlib.Core.List.{Memᴰ}
use native.Mathlib.Decide.{dec_lt}
use Rattle.games.specs.Game.{asked, at}
use Rattle.games.proofs.Asked.{asked_local}
use Rattle.games.proofs.Rose.{rose-most}
use Rattle.automaton.specs.declared.Mode.{Mode}
use Rattle.automaton.specs.Board.{Board, Formed}
use Rattle.simulation.specs.Position.{pairs}
use Rattle.simulation.specs.Rules.{game}
use Rattle.simulation.proofs.Limits.{positions-most}
use Rattle.arena.specs.declared.game.Game.{Game}
use Rattle.arena.specs.Game.{board}
use Rattle.arena.proofs.Open.{ready-again}
use Rattle.halves.specs.Rising.{Rising, Spoiling, Pushed, Underway}
use Rattle.halves.proofs.Apart.{spoilers_apart}
use Rattle.spoilers.specs.Work.{Raising, Working}

module _ (B : Board) (m : Mode) where
  pub pushed_none : (s : Rising) → Pushed B m s s 0
  pushed_none s = record {
    entries = refl;
    grown = λ v. le_refl (at s.table v);
    others = λ v h. refl;
    goes = λ t d p. subst (Spoiling B m t s) (omega arith) p;
  }

  module _ {s u w : Rising} {c d : ℕ} where
    pub pushed_then : Pushed B m s u c → Pushed B m u w d → Pushed B m s w (c + d)
    pushed_then p q = record {
      entries = q.entries ∙ p.entries;
      grown = λ v. le_trans (p.grown v) (q.grown v);
      others = λ v h. q.others v h ∙ p.others v h;
      goes = λ t e x. subst (Spoiling B m t w) (omega arith) (q.goes t (e + c) (p.goes t e x));
    }

  -- a part that ends in a half with at most so many entries counts no more than those
  pub pushed_most : {s u : Rising} {c : ℕ} → Pushed B m s u c → Underway B m s → c ≤ length s.table
  pushed_most {s} {u} {c} p (t, (d, x)) = omega (arith, (p.goes t d x).count, rose-most t u.table (length t), x.entries)

  -- what Spoiler's positions ask for is a matter of Duplicator's entries
  pub asked-kept : Formed B → (t u : List ℕ) → ((v : ℕ) → pairs B m ≤ v → at u v ≡ at t v)
      → (v : ℕ) → v < pairs B m → asked (game B m) (at u) v ≡ asked (game B m) (at t) v
  asked-kept F t u same v h = asked_local (game B m) (at u) (at t) v (λ w i. go w i (dec_lt w (pairs B m)))
    where
      go : (w : ℕ) → Memᴰ w ((game B m).next v) → Dec (w < pairs B m) → at u w ≡ at t w
      go w i (yes l) = absurd (spoilers_apart B m F v w (omega arith) h i (omega arith) l)
      go w i (no l) = same w (omega arith)

-- what is lent besides the table keeps its lengths
pub record Sized (s u : Rising) : Type 0 where
  pub risen : length u.risen ≡ length s.risen
  pub rows : length u.rows ≡ length s.rows
  pub olds : length u.olds ≡ length s.olds

pub sized_none : (s : Rising) → Sized s s
sized_none s = record { risen = refl; rows = refl; olds = refl }

pub sized_then : {s u w : Rising} → Sized s u → Sized u w → Sized s w
sized_then p q = record { risen = q.risen ∙ p.risen; rows = q.rows ∙ p.rows; olds = q.olds ∙ p.olds }

module _ {g : Game} {s u : Rising} {c : ℕ} where
  pub raising-kept : Raising g s → Pushed (board g) g.arena.mode s u c → Sized s u → Raising g u
  raising-kept w p z = record {
    ready = ready-again g.arena g.marks.now g.moves.now s.table u.table w.ready p.entries;
    roomy = record {
      risen = omega (arith, w.roomy.risen, z.risen);
      rows = omega (arith, w.roomy.rows, z.rows);
      olds = omega (arith, w.roomy.olds, z.olds);
    };
    underway = let (t, (d, x)) = w.underway in (t, (d + c, p.goes t d x));
  }

  pub working_kept : Working g s → Pushed (board g) g.arena.mode s u c → Sized s u → Working g u
  working_kept w p z = record {
    raising = raising-kept w.raising p z;
    capped = λ v h. omega (arith, w.capped v h, p.others v h);
    floor = λ b q r x y k. le_trans (w.floor b q r x y k) (p.grown _);
  }

  -- no count wraps: P is at most 139,264
  pub raising-most : Raising g s → Pushed (board g) g.arena.mode s u c → c ≤ 139264
  raising-most w p =
      let B = board g in
      le_trans (pushed_most B g.arena.mode p w.underway) (rw w.ready.entries (positions-most B w.ready.formed g.arena.mode))
