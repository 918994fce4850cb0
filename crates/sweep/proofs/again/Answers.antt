-- `sweep::again` meets its contract: Spoiler's half, then Duplicator's by what is noted; what is marked and what is noted is wiped when it has been used.
use Rattle.std.proofs.Common.{refl, sym, arith}
use Rattle.arena.specs.Game.{board}
use Rattle.halves.specs.Rising.{rising}
use Rattle.halves.proofs.Rest.{stirred-by}
use Rattle.sweep.proofs.Between.{noted_covered, rose-few, spoilers_half, duplicators_half, sweep-done}
use Rattle.sweep.proofs.Room.{noted_again, marked_again, roomy_of, spacious_of}
use Rattle.sweep.proofs.again.Goals as goal

pub challenge-pushed-requires : goal.challenge-pushed-requires
challenge-pushed-requires c =
    let e = c.requires.equipped in
    record { ready = e.ready; accepting = e.accepting; into = e.before; onto = e.after; spacious = spacious_of e; roomy = roomy_of e; capped = c.requires.poised.capped; all_calm = c.requires.poised.calm; blank = c.requires.poised.blank }

pub answer-answered-requires : goal.answer-answered-requires
answer-answered-requires c =
    let pushed = c.challenge-pushed in
    let e = marked_again (noted_again c.requires.equipped pushed.auto.table pushed.auto.risen pushed.auto.rows pushed.auto.olds) refl c.all_columns.auto.grown c.all_columns.auto.columns in
    record {
      ready = e.ready;
      accepting = e.accepting;
      into = e.before;
      onto = e.after;
      spacious = spacious_of e;
      roomy = roomy_of e;
      all_stirred = stirred-by (board c.args.game.now) c.args.game.now.arena.mode e.ready.formed c.args.table.now (rising pushed.new.table pushed.new.risen pushed.new.rows pushed.new.olds)
          c.requires.poised.rested (spoilers_half c.args.game.now c.requires.equipped.ready pushed.ensures.halved) pushed.ensures.all_noted;
    }

pub all_rows-requires : goal.all_rows-requires
all_rows-requires c =
    let pushed = c.challenge-pushed in
    let e = noted_again c.requires.equipped pushed.auto.table pushed.auto.risen pushed.auto.rows pushed.auto.olds in
    record {
      states_le_most_states = e.ready.formed.few;
      rows_in_bounds = (e.for_risen, e.for_olds, e.for_rows);
      covered = noted_covered (board c.args.game.now) c.args.game.now.arena.mode c.args.table.now (rising pushed.new.table pushed.new.risen pushed.new.rows pushed.new.olds) pushed.ensures.all_noted;
    }

pub overflow_add-result : goal.overflow_add-result
overflow_add-result c =
    let pushed = c.challenge-pushed in
    let e = noted_again c.requires.equipped pushed.auto.table pushed.auto.risen pushed.auto.rows pushed.auto.olds in
    omega (
      arith,
      pushed.ensures.value,
      rose-few c.args.game.now c.requires.equipped.ready pushed.new.table,
      c.answer-answered.ensures.answered_in.count,
      rose-few c.args.game.now e.ready c.answer-answered.new.table,
    )

pub returns : goal.returns
returns c =
    let pushed = c.challenge-pushed in
    let answered = c.answer-answered in
    let e = noted_again c.requires.equipped pushed.auto.table pushed.auto.risen pushed.auto.rows pushed.auto.olds in
    let done = sweep-done c.args.game.now c.requires.equipped.ready pushed.new.table answered.new.table c.all_rows.new.risen answered.new.grown answered.new.columns
    (spoilers_half c.args.game.now c.requires.equipped.ready pushed.ensures.halved) (duplicators_half c.args.game.now e.ready answered.ensures.halved)
    pushed.ensures.value (sym answered.ensures.answered_in.count) c.requires.poised.capped answered.ensures.answered_in.marked c.all_rows.ensures in
    record { value = done.0; table_after = done.1.0; poised_again = done.1.1 }
