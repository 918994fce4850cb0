-- `sweep::first` meets its contract: Spoiler's half of a cleared table, then Duplicator's dead ends, and the rest of Duplicator's half by what is noted.
use Rattle.std.proofs.Common.{◌≡◌, sym, ℕ, arith}
use Rattle.games.specs.Game.{at}
use Rattle.games.proofs.Lift.{cleared_at}
use Rattle.simulation.specs.Position.{positions}
use Rattle.arena.specs.Game.{board}
use Rattle.halves.specs.Rising.{rising}
use Rattle.duplicators.specs.Growing.{growing}
use Rattle.duplicators.proofs.Part.{part_join, parts-few}
use Rattle.sweep.proofs.Between.{noted_covered, rose-few, spoilers_half, duplicators_half, sweep-done}
use Rattle.sweep.proofs.Cleared.{first-stirred, rest_halved}
use Rattle.sweep.proofs.Room.{noted_again, marked_again, roomy_of, spacious_of}
use Rattle.sweep.proofs.first.Goals as goal

pub begin-begun-requires : goal.begin-begun-requires
begin-begun-requires c =
    let e = c.requires.equipped in
    record {
      ready = e.ready;
      accepting = e.accepting;
      roomy = roomy_of e;
      zeros = λ v. rw c.requires.table_value (cleared_at (positions (board c.args.game.now) c.args.game.now.arena.mode) v);
      blank = c.requires.blank;
    }

pub dead_ends-ended-requires : goal.dead_ends-ended-requires
dead_ends-ended-requires c =
    let b = c.begin-begun.auto in
    let e = noted_again c.requires.equipped b.table b.risen b.rows b.olds in
    record { ready = e.ready; accepting = e.accepting; onto = e.after; spacious = spacious_of e }

pub answer-answered-requires : goal.answer-answered-requires
answer-answered-requires c =
    let B = board c.args.game.now in
    let m = c.args.game.now.arena.mode in
    let begun = c.begin-begun in
    let ended = c.dead_ends-ended in
    let e = marked_again (noted_again c.requires.equipped begun.auto.table begun.auto.risen begun.auto.rows begun.auto.olds) ended.auto.table ended.auto.grown ended.auto.columns in
    record {
      ready = e.ready;
      accepting = e.accepting;
      into = e.before;
      onto = e.after;
      spacious = spacious_of e;
      roomy = roomy_of e;
      all_stirred = first-stirred B m e.ready.formed c.args.table.now ended.new.table (rising begun.new.table begun.new.risen begun.new.rows begun.new.olds)
          (λ v. rw c.requires.table_value (cleared_at (positions B m) v)) begun.ensures.all_noted ended.ensures.answered_in.others ended.ensures.all_ended;
    }

pub all_rows-requires : goal.all_rows-requires
all_rows-requires c =
    let begun = c.begin-begun in
    let e = noted_again c.requires.equipped begun.auto.table begun.auto.risen begun.auto.rows begun.auto.olds in
    record {
      states_le_most_states = e.ready.formed.few;
      rows_in_bounds = (e.for_risen, e.for_olds, e.for_rows);
      covered = noted_covered (board c.args.game.now) c.args.game.now.arena.mode c.args.table.now (rising begun.new.table begun.new.risen begun.new.rows begun.new.olds) begun.ensures.all_noted;
    }

pub overflow_add-result : goal.overflow_add-result
overflow_add-result c =
    let begun = c.begin-begun in
    let e = noted_again c.requires.equipped begun.auto.table begun.auto.risen begun.auto.rows begun.auto.olds in
    omega (arith, begun.ensures.value, rose-few c.args.game.now c.requires.equipped.ready begun.new.table, parts-few e.ready.formed e.ready.entries c.dead_ends-ended.ensures.answered_in c.answer-answered.ensures.answered_in)

pub overflow_add-result-2 : goal.overflow_add-result-2
overflow_add-result-2 c =
    let begun = c.begin-begun in
    let e = noted_again c.requires.equipped begun.auto.table begun.auto.risen begun.auto.rows begun.auto.olds in
    omega (arith, begun.ensures.value, rose-few c.args.game.now c.requires.equipped.ready begun.new.table, parts-few e.ready.formed e.ready.entries c.dead_ends-ended.ensures.answered_in c.answer-answered.ensures.answered_in)

pub returns : goal.returns
returns c =
    let B = board c.args.game.now in
    let m = c.args.game.now.arena.mode in
    let F = c.requires.equipped.ready.formed in
    let begun = c.begin-begun in
    let ended = c.dead_ends-ended in
    let answered = c.answer-answered in
    let e = noted_again c.requires.equipped begun.auto.table begun.auto.risen begun.auto.rows begun.auto.olds in
    let marked = marked_again e ended.auto.table ended.auto.grown ended.auto.columns in
    let half = rest_halved B m F (growing begun.new.table c.args.grown.now c.args.columns.now) (growing ended.new.table ended.new.grown ended.new.columns) answered.new.table e.ready.entries
    ended.ensures.answered_in (duplicators_half c.args.game.now marked.ready answered.ensures.halved) in
    let zeros : (v : ℕ) → at c.args.table.now v ≡ 0 = λ v. rw c.requires.table_value (cleared_at (positions B m) v) in
    let both = part_join F e.ready.entries ended.ensures.answered_in answered.ensures.answered_in in
    let done = sweep-done c.args.game.now c.requires.equipped.ready begun.new.table answered.new.table c.all_rows.new.risen answered.new.grown answered.new.columns
    (spoilers_half c.args.game.now c.requires.equipped.ready begun.ensures.halved) half begun.ensures.value (sym both.count)
    (λ v. omega (arith, zeros v)) both.marked c.all_rows.ensures in
    record { value = omega (arith, done.0); table_after = done.1.0; poised = done.1.1 }
