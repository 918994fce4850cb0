-- `relation::reply_at` meets its contract: whose turn it is, whether the entry is T, and what the scan found decide in this order.
use Rattle.std.proofs.Common.{◌≡◌, refl, sym, ap, ◌∙◌, Bool, Option, None, List, [], ◌∷◌, ℕ, ◌-◌, ◌≤◌, ◌<◌, le-leb, arith}
use Rattle.std.proofs.lemmas.Bool.{lt-leb}
use Rattle.games.specs.Game.{at}
use Rattle.automaton.specs.declared.Mode.{Mode}
use Rattle.automaton.specs.declared.Refusal.TheVariants.{LostPosition}
use Rattle.automaton.specs.Answer.{Answer, valued, refused, fails, first_fault, unless}
use Rattle.automaton.specs.Board.{Board}
use Rattle.simulation.specs.Answers.{entry_after, blue_moves, blue_reply, move_fault, reply_on}
use Rattle.simulation.specs.Moves.{targets}
use Rattle.simulation.specs.Position.{Position, spoiler, duplicator, duplicator_at, position, Fits}
use Rattle.simulation.specs.Rules.{ceiling}
use Rattle.simulation.proofs.Position.{spoilers_turn, duplicators_turn, position_fits}
use Rattle.arena.specs.declared.game.Game.{Game}
use Rattle.arena.specs.Game.{board, Playable}
use Rattle.verdicts.specs.declared.best.Best.{Best}
use Rattle.verdicts.specs.Best.{best_of}
use Rattle.verdicts.proofs.Scanned.{chosen, scanned}
use Rattle.relation.proofs.reply_at.Goals as goal

module _ (B : Board) (m : Mode) (t : List ℕ) where
  -- the best of Blue's moves at a position
  abbrev best : Position → Option Best
  best (spoiler b q r) = None
  best (duplicator b q r a) = best_of (entry_after B m t b q) None (targets B r a)

  best-is : (p : Position) → unless (first_fault (move_fault (blue_moves B p) ∷ [])) (valued (blue_reply B m t p)) ≡ chosen (best p)
  best-is (spoiler b q r) = refl
  best-is (duplicator b q r a) = scanned (entry_after B m t b q) (targets B r a)

module _ (g : Game) (t : List ℕ) (v : ℕ) (R : Playable g t) where
  abbrev replied : Position → Answer
  replied p = reply_on (board g) g.arena.mode t v p

  -- Duplicator's position with that number
  abbrev asked : Position
  asked = duplicator_at (board g) (v - g.arena.pairs)

  duplicators : g.arena.pairs ≤ v → position (board g) g.arena.mode v ≡ asked
  duplicators h = let e = R.paired in rw e (duplicators_turn (board g) g.arena.mode v (omega arith))

  lost : g.arena.pairs ≤ v → g.arena.top ≤ at t v → replied (position (board g) g.arena.mode v) ≡ refused LostPosition
  lost h l = ap replied (duplicators h) ∙ simp (le-leb (ceiling (board g) g.arena.mode) (at t v) (omega (arith, R.topped)))

  -- a position that is not lost: what the scan answers
  held : g.arena.pairs ≤ v → at t v < g.arena.top → chosen (best (board g) g.arena.mode t asked) ≡ replied (position (board g) g.arena.mode v)
  held h l =
      sym (ap replied (duplicators h)
      ∙ ap (λ (d : Bool). unless (first_fault (fails d LostPosition ∷ move_fault (blue_moves (board g) asked) ∷ [])) (valued (blue_reply (board g) g.arena.mode t asked)))
      (lt-leb (ceiling (board g) g.arena.mode) (at t v) (omega (arith, R.topped)))
      ∙ best-is (board g) g.arena.mode t asked)

pub returns-then-position-g : goal.returns-then-position-g
returns-then-position-g c =
    let a = c.args in
    let g = a.game.now in
    sym (ap (replied g a.table.now a.position c.requires.playable) (spoilers_turn (board g) g.arena.mode a.position (omega (arith, c.requires.playable.paired))))

pub returns-then-g-table : goal.returns-then-g-table
returns-then-g-table c = let a = c.args in sym (lost a.game.now a.table.now a.position c.requires.playable (omega arith) (omega arith))

pub scan-requires : goal.scan-requires
scan-requires c =
    let a = c.args in
    let g = a.game.now in
    let R = c.requires.playable in
    let fits : Fits (board g) g.arena.mode (position (board g) g.arena.mode a.position) = position_fits (board g) g.arena.mode R.formed a.position (omega (arith, R.entries)) in
    let inside = rw (duplicators g a.table.now a.position R (omega arith)) at fits in
    record { playable = R; position = (inside.0, inside.1) }

pub returns-in_default : goal.returns-in_default
returns-in_default c =
    let a = c.args in
    ap chosen (sym c.in_default.is ∙ c.scan.ensures) ∙ held a.game.now a.table.now a.position c.requires.playable (omega arith) (omega arith)

pub returns : goal.returns
returns c =
    let a = c.args in
    ap chosen (sym c.in-Some.is ∙ c.scan.ensures) ∙ held a.game.now a.table.now a.position c.requires.playable (omega arith) (omega arith)
