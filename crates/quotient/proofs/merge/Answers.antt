-- `quotient::merge` meets its contract: each call reads what the calls before it wrote, which is what the definitions say.
use Rattle.std.proofs.Common.{◌≡◌, sym, ap, ◌∙◌, subst, List, ◌++◌, map, ℕ, ◌*◌, ◌/◌, length, get_or, drop, arith}
use Rattle.games.specs.Settle.{ascending}
use Rattle.automaton.specs.declared.Mode.{Mode}
use Rattle.simulation.specs.Quotient.{padded, class_count, class_bytes, mark_bytes, class_moves}
use Rattle.laws.proofs.Fewer.{moves_fewer}
use Rattle.laws.proofs.Quotient.{classes-most}
use Rattle.triples.specs.Triples.{triples_in}
use Rattle.arena.specs.declared.game.Game.{Game}
use Rattle.arena.specs.Game.{board, Playable}
use Rattle.arena.specs.Seats.{bare}
use Rattle.arena.proofs.Seats.{seated}
use Rattle.classing.specs.Writing.{Imaged, mark_in, Seen}
use Rattle.classing.proofs.Bare.{bare-bytes, bare-count}
use Rattle.classing.proofs.Bytes.{marks_are, imaged, triples_are, class_at}
use Rattle.classing.proofs.Lists.{padded_tail}
use Rattle.quotient.specs.Calls.{buffers, counted}
use Rattle.quotient.proofs.merge.Goals as goal

-- ---- what the calls in turn wrote

module _ (g : Game) (t : List ℕ) (R : Playable g t) (classes : List ℕ) (e : classes ≡ class_bytes (bare g.arena g.marks.now) g.arena.mode t) where
  abbrev m : Mode
  m = g.arena.mode

  classes-are : classes ≡ class_bytes (board g) m t
  classes-are = e ∙ bare-bytes g.arena g.marks.now g.moves.now t

  images : Imaged g.arena.states g.arena.letters classes g.moves.now
  images = subst (λ (l : List ℕ). Imaged g.arena.states g.arena.letters l g.moves.now) (sym classes-are) (imaged (board g) m t R.formed)

  -- the moves whose numbers were marked are those of the quotient
  moves-are : (seen : List ℕ) → Seen g.arena.states g.arena.letters classes g.moves.now (length g.moves.now / 3) seen
      → triples_in g.arena.states g.arena.letters seen (g.arena.states * g.arena.letters * g.arena.states) ≡ class_moves (board g) m t
  moves-are seen s =
      triples_are (board g) m t R.formed seen
      (subst (λ (l : List ℕ). Seen g.arena.states g.arena.letters l g.moves.now (length g.moves.now / 3) seen) classes-are s)

  marks_are_written : (count : ℕ) (out : List ℕ) → count ≡ class_count (bare g.arena g.marks.now) m t → length out ≡ g.arena.states
      → padded (length out) (map (mark_in g.marks.now classes) (ascending 0 count)) ≡ mark_bytes (board g) m t
  marks_are_written count out n l =
      (λ i. padded (l i) (map (mark_in g.marks.now (classes-are i)) (ascending 0 ((n ∙ bare-count g.arena g.marks.now g.moves.now t) i))))
      ∙ ap (padded g.arena.states) (marks_are (board g) m t R.formed)

pub invariant_of-seats : goal.invariant_of-seats
invariant_of-seats c =
    let g = c.args.game.now in
    record { seated = seated g.arena g.marks.now g.moves.now c.args.table.now c.requires.playable }

pub fill_marks-requires-clause-count_in_bounds : goal.fill_marks-requires-clause-count_in_bounds
fill_marks-requires-clause-count_in_bounds c =
    let g = c.args.game.now in
    let t = c.args.table.now in
    omega (arith, bare-count g.arena g.marks.now g.moves.now t, classes-most (board g) g.arena.mode t)

pub mark_images-requires-clause-imaged : goal.mark_images-requires-clause-imaged
mark_images-requires-clause-imaged c =
    images c.args.game.now c.args.table.now c.requires.playable c.number-count.new.classes c.number-count.ensures.classes_after

pub write_moves-bytes-requires-clause-states_in_bounds : goal.write_moves-bytes-requires-clause-states_in_bounds
write_moves-bytes-requires-clause-states_in_bounds c =
    let g = c.args.game.now in
    let t = c.args.table.now in
    let moved = moves-are g t c.requires.playable c.number-count.new.classes c.number-count.ensures.classes_after c.mark_images.new.seen c.mark_images.ensures in
    omega (arith, ap length moved, moves_fewer (board g) g.arena.mode t)

pub returns-clause-result_value : goal.returns-clause-result_value
returns-clause-result_value c =
    let g = c.args.game.now in
    let t = c.args.table.now in
    let n = c.number-count in
    let moved = moves-are g t c.requires.playable n.new.classes n.ensures.classes_after c.mark_images.new.seen c.mark_images.ensures in
    let count = n.ensures.value ∙ bare-count g.arena g.marks.now g.moves.now t in
    let bytes = c.write_moves-bytes.ensures.value ∙ ap length moved in
    let start = c.wide.ensures
    ∙ ap (λ (l : List ℕ). get_or l c.args.start 0) (classes-are g t c.requires.playable n.new.classes n.ensures.classes_after)
    ∙ class_at (board g) g.arena.mode t c.args.start c.requires.is_state in
    λ i. counted (count i) (bytes i / 3) (start i)

pub returns-clause-buffers_after : goal.returns-clause-buffers_after
returns-clause-buffers_after c =
    let g = c.args.game.now in
    let t = c.args.table.now in
    let n = c.number-count in
    let moved = moves-are g t c.requires.playable n.new.classes n.ensures.classes_after c.mark_images.new.seen c.mark_images.ensures in
    let classes = classes-are g t c.requires.playable n.new.classes n.ensures.classes_after in
    let marks = c.fill_marks.ensures ∙ marks_are_written g t c.requires.playable n.new.classes n.ensures.classes_after n.result c.args.classmarks.now n.ensures.value c.requires.sized.1 in
    let w = c.write_moves-bytes in
    let out-is = w.ensures.out_after ∙ ap (λ (l : List ℕ). l ++ drop w.result c.args.classmoves.now) moved in
    let length-is = w.auto.out ∙ c.requires.sized.2 in
    let moves = padded_tail w.result w.new.out (class_moves (board g) g.arena.mode t) (drop w.result c.args.classmoves.now) c.leave_unused.new.part out-is (sym (w.ensures.value ∙ ap length moved)) c.leave_unused.ensures
    ∙ ap (λ (n : ℕ). padded n (class_moves (board g) g.arena.mode t)) length-is in
    λ i. buffers t (classes i) (marks i) (moves i)
