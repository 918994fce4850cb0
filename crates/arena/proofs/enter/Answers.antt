-- `arena::enter` meets its contract: what `check` and the mode's number answered decides the refusal, and the arena has the game's numbers.
use Rattle.std.proofs.Common.{◌≡◌, ap, ◌∙◌, ℕ, [], Ok, Some, arith}
use Rattle.std.proofs.lemmas.Result.{err_from_is_err_and}
use Rattle.automaton.specs.Answer.{none}
use Rattle.automaton.specs.Check.{automaton_fault, checked}
use Rattle.automaton.specs.Limits.{name_of}
use Rattle.automaton.specs.declared.Mode.{Mode}
use Rattle.automaton.proofs.One.{checked-none, checked-fault}
use Rattle.automaton.proofs.Sound.{automaton-line}
use Rattle.arena.specs.Job.{Job, job_of}
use Rattle.arena.specs.Arena.{arena_of, entered}
use Rattle.arena.proofs.Open.{ceiling-moves, entered-refused, entered_unknown, entered-known, unnamed}
use Rattle.arena.proofs.enter.Goals as goal

pub returns-in_err-check : goal.returns-in_err-check
unfolding checked
returns-in_err-check c =
    let j : Job = job_of c.job.inside.automaton c.job.inside.marks.now c.job.inside.moves.now c.job.inside.mode in
    let p = err_from_is_err_and c.from_residual.result c.from_residual.ensures.1 in
    rw (p.1, p.2) (entered-refused j _ (checked-fault _ c.check.result _ c.in_err-check.was c.check.ensures)) ∙ ap entered c.job.view_is

pub pairs_of-requires : goal.pairs_of-requires
unfolding checked
pairs_of-requires c =
    let j : Job = job_of c.job.inside.automaton c.job.inside.marks.now c.job.inside.moves.now c.job.inside.mode in
    let faultless : automaton_fault j.board j.start ≡ none = checked-none _ c.check.result c.in_ok-check.was c.check.ensures in
    ((automaton-line j.board j.start).0 faultless).0.few

pub top-requires : goal.top-requires
unfolding checked
top-requires c =
    let j : Job = job_of c.job.inside.automaton c.job.inside.marks.now c.job.inside.moves.now c.job.inside.mode in
    let faultless : automaton_fault j.board j.start ≡ none = checked-none _ c.check.result c.in_ok-check.was c.check.ensures in
    let F = ((automaton-line j.board j.start).0 faultless).0 in
    record { states_le_most_states = F.few; marks_len = F.marked }

pub returns-in_err-mode : goal.returns-in_err-mode
unfolding checked
returns-in_err-mode c =
    let j : Job = job_of c.job.inside.automaton c.job.inside.marks.now c.job.inside.moves.now c.job.inside.mode in
    let faultless : automaton_fault j.board j.start ≡ none = checked-none _ c.check.result c.in_ok-check.was c.check.ensures in
    let p = err_from_is_err_and c.from_residual-in_err-mode.result c.from_residual-in_err-mode.ensures.1 in
    let known = unnamed (name_of j.mode) _ c.in_err-mode.ensures in
    rw (p.1, p.2, known.1) (entered_unknown j faultless known.0) ∙ ap entered c.job.view_is

pub returns : goal.returns
unfolding checked
returns c =
    let j : Job = job_of c.job.inside.automaton c.job.inside.marks.now c.job.inside.moves.now c.job.inside.mode in
    let faultless : automaton_fault j.board j.start ≡ none = checked-none _ c.check.result c.in_ok-check.was c.check.ensures in
    let m : Mode = c.in_ok-mode.mode in
    let known : name_of j.mode ≡ Some m = grind (arith, c.in_ok-mode.ensures) in
    ap (λ (p : ℕ). Ok (record { states = j.board.n; letters = j.board.k; mode = m; pairs = p; top = c.top.result })) c.pairs_of.ensures
    ∙ ap (λ (t : ℕ). Ok (record { states = j.board.n; letters = j.board.k; mode = m; pairs = (arena_of j.board m).pairs; top = t })) (c.top.ensures ∙ ceiling-moves j.board.n j.board.k j.board.marks [] j.board.moves m)
    ∙ entered-known j m faultless known
    ∙ ap entered c.job.view_is
