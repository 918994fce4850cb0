-- `quotient::quotient` meets its contract: refusals 1 to 8, 17, 9 and 16 are decided before the table is settled and the quotient by it is written.
use Rattle.std.proofs.Common.{◌≡◌, sym, ap, ◌∙◌, subst, List, ℕ, length, arith}
use Rattle.std.proofs.lemmas.Result.{err_from_is_err_and}
use Rattle.automaton.specs.Answer.{refused}
use Rattle.automaton.specs.declared.Refusal.TheVariants.{OutputLength}
use Rattle.automaton.specs.Effect.{Effect}
use Rattle.automaton.proofs.Effects.{both}
use Rattle.simulation.specs.Answers.{settled}
use Rattle.arena.specs.Arena.{board_in, Ready}
use Rattle.arena.specs.Job.{Job, mode_of}
use Rattle.arena.proofs.Open.{open_ready, ready-again}
use Rattle.table.proofs.Accepted.{settle-does}
use Rattle.quotient.specs.Calls.{Buffers, buffers, merging, quotienting}
use Rattle.quotient.proofs.Admission.{admit-line, admit_open, opened_too}
use Rattle.quotient.proofs.Outputs.{shut_refused, classes-refused, marks-refused, moves-refused, merge-does, states_are}
use Rattle.quotient.proofs.quotient.Goals.{then-classes-states-via-then-classes-states, then-classes-states-via-else-classes-states+then-classmarks-states, then-classes-states-via-else-classes-states+else-classmarks-states+then-classmoves-job}
use Rattle.quotient.proofs.quotient.Goals as goal

pub returns-in_err-arena : goal.returns-in_err-arena
returns-in_err-arena c =
    let a = c.args in
    let lent : Buffers = buffers a.table.now a.classes.now a.classmarks.now a.classmoves.now in
    let p = err_from_is_err_and c.from_residual.result c.from_residual.ensures.1 in
    let ends = both (sym (shut_refused a.job.now lent _ (sym c.in_err-arena.ensures))) in
    record { result_value = rw (p.1, p.2) ends.0; buffers_after = ends.1 }

pub returns-then-classes-states : goal.returns-then-classes-states
returns-then-classes-states c =
    let a = c.args in
    let lent : Buffers = buffers a.table.now a.classes.now a.classmarks.now a.classmoves.now in
    let g = c.in_ok-arena.arena in
    let o = sym c.in_ok-arena.ensures in
    let refuses : quotienting a.job.now lent ≡ record { answer = refused OutputLength; left = lent } = elim c.then-classes-states.branch [
      | then-classes-states-via-then-classes-states w ↦ classes-refused a.job.now lent g o w.if-classes-states.true
      | then-classes-states-via-else-classes-states+then-classmarks-states w ↦ marks-refused a.job.now lent g o w.if-classmarks-states.true
      | then-classes-states-via-else-classes-states+else-classmarks-states+then-classmoves-job w ↦
          moves-refused a.job.now lent g o (λ e. w.if-classmoves-job.true (e ∙ sym (ap (λ (k : Job). length k.board.moves) c.job.view_is)))
    ] in
    let ends = both (sym refuses) in
    record { result_value = ends.0; buffers_after = ends.1 }

pub merge-requires-clause-playable : goal.merge-requires-clause-playable
merge-requires-clause-playable c =
    let a = c.args in
    let j = a.job.now in
    let t = a.table.now in
    let g = c.in_ok-arena.arena in
    let ready = open_ready j t g (opened_too j (length t) g (sym c.in_ok-arena.ensures)) in
    subst (λ (k : Job). Ready g k.board.marks k.board.moves c.settle.new.table) (sym c.job.view_is) (ready-again g j.board.marks j.board.moves t c.settle.new.table ready c.settle.auto.table)

pub merge-requires-clause-is_state : goal.merge-requires-clause-is_state
merge-requires-clause-is_state c =
    let a = c.args in
    let j = a.job.now in
    let lent : Buffers = buffers a.table.now a.classes.now a.classmarks.now a.classmoves.now in
    let g = c.in_ok-arena.arena in
    let fitting = ((admit-line j lent.table).0 (admit_open j (length lent.table) g (sym c.in_ok-arena.ensures))).0 in
    omega (arith, fitting.0.1, ap (λ (k : Job). k.start) c.job.view_is, states_are j lent g (sym c.in_ok-arena.ensures))

pub returns : goal.returns
returns c =
    let a = c.args in
    let j = a.job.now in
    let lent : Buffers = buffers a.table.now a.classes.now a.classmarks.now a.classmoves.now in
    let g = c.in_ok-arena.arena in
    let o = sym c.in_ok-arena.ensures in
    let t = c.settle.new.table in
    let fitting = ((admit-line j lent.table).0 (admit_open j (length lent.table) g o)).0 in
    let table_is : t ≡ (settled j.board (mode_of j.mode)).table = c.settle.ensures.table_after ∙ ap (λ (e : Effect (List ℕ)). e.left) (settle-does j lent.table fitting) in
    let moves = c.if-classmoves-job.false ∙ ap (λ (k : Job). length k.board.moves) c.job.view_is in
    let does = ap (λ (k : Job). merging (board_in g k.board.marks k.board.moves) g.mode k.start t) c.job.view_is
    ∙ sym (merge-does j lent g o c.if-classes-states.false c.if-classmarks-states.false moves t table_is) in
    let ends = both does in
    record { result_value = c.merge.ensures.result_value ∙ ends.0; buffers_after = c.merge.ensures.buffers_after ∙ ends.1 }
