-- `arena::positions` meets its contract: what `limits` and the mode's number answered decides the refusal.
use Rattle.std.proofs.Common.{◌≡◌, sym, ap, ◌∙◌, List, [], ◌∷◌, Some, arith}
use Rattle.std.proofs.lemmas.Result.{err_from_is_err_and}
use Rattle.automaton.specs.Answer.{Answer, valued, Fault, none, first_fault, unless}
use Rattle.automaton.specs.Board.{board_of}
use Rattle.automaton.specs.Check.{states_fault, letters_fault, mode_fault, limited}
use Rattle.automaton.specs.Limits.{name_of}
use Rattle.automaton.proofs.Fault.{faults_passed, faults_stopped}
use Rattle.automaton.proofs.One.{checked-none, checked-fault}
use Rattle.automaton.proofs.Sound.{limits-line}
use Rattle.simulation.specs.Position.{positions}
use Rattle.simulation.proofs.Limits.{pairs-most}
use Rattle.arena.specs.Job.{mode_of}
use Rattle.arena.proofs.Open.{unnamed}
use Rattle.arena.proofs.positions.Goals as goal

pub returns-in_err-limits : goal.returns-in_err-limits
unfolding limited
returns-in_err-limits c =
    let limit-lines : List Fault = states_fault c.args.a.states ∷ letters_fault c.args.a.letters ∷ [] in
    let mode-line : List Fault = mode_fault c.args.mode ∷ [] in
    let sized : Answer = valued (positions (board_of c.args.a [] []) (mode_of c.args.mode)) in
    let p = err_from_is_err_and c.from_residual.result c.from_residual.ensures.1 in
    let e = checked-fault (first_fault limit-lines) c.limits.result _ c.in_err-limits.was c.limits.ensures in
    rw (p.1, p.2) (sym (ap (λ f. unless f sized) (faults_stopped limit-lines mode-line _ e)))

pub pairs_of-pairs-requires : goal.pairs_of-pairs-requires
unfolding limited
pairs_of-pairs-requires c =
    let limit-lines : List Fault = states_fault c.args.a.states ∷ letters_fault c.args.a.letters ∷ [] in
    let within : first_fault limit-lines ≡ none = checked-none (first_fault limit-lines) c.limits.result c.in_ok-limits.was c.limits.ensures in
    ((limits-line c.args.a.states c.args.a.letters).0 within).0.1

pub size-requires : goal.size-requires
unfolding limited
size-requires c =
    let limit-lines : List Fault = states_fault c.args.a.states ∷ letters_fault c.args.a.letters ∷ [] in
    let within : first_fault limit-lines ≡ none = checked-none (first_fault limit-lines) c.limits.result c.in_ok-limits.was c.limits.ensures in
    let few = (limits-line c.args.a.states c.args.a.letters).0 within in
    record {
      pairs_bound = omega (arith, c.pairs_of-pairs.ensures, pairs-most (board_of c.args.a [] []) c.in_ok-try_from.field-0 few.0.1);
      letters_le_most_letters = few.1.1;
    }

pub returns-in_err-try_from : goal.returns-in_err-try_from
unfolding limited
returns-in_err-try_from c =
    let limit-lines : List Fault = states_fault c.args.a.states ∷ letters_fault c.args.a.letters ∷ [] in
    let mode-line : List Fault = mode_fault c.args.mode ∷ [] in
    let sized : Answer = valued (positions (board_of c.args.a [] []) (mode_of c.args.mode)) in
    let within : first_fault limit-lines ≡ none = checked-none (first_fault limit-lines) c.limits.result c.in_ok-limits.was c.limits.ensures in
    let p = err_from_is_err_and c.from_residual-in_err-try_from.result c.from_residual-in_err-try_from.ensures.1 in
    let known = unnamed (name_of c.args.mode) _ c.in_err-try_from.ensures in
    rw (p.1, p.2, known.1) (sym (ap (λ f. unless f sized) (faults_passed limit-lines mode-line within) ∙ simp known.0))

pub returns : goal.returns
unfolding limited
returns c =
    let limit-lines : List Fault = states_fault c.args.a.states ∷ letters_fault c.args.a.letters ∷ [] in
    let mode-line : List Fault = mode_fault c.args.mode ∷ [] in
    let sized : Answer = valued (positions (board_of c.args.a [] []) (mode_of c.args.mode)) in
    let within : first_fault limit-lines ≡ none = checked-none (first_fault limit-lines) c.limits.result c.in_ok-limits.was c.limits.ensures in
    let known : name_of c.args.mode ≡ Some c.in_ok-try_from.field-0 = grind (arith, c.in_ok-try_from.ensures) in
    sym (ap (λ f. unless f sized) (faults_passed limit-lines mode-line within) ∙ simp (known, c.size.ensures, c.pairs_of-pairs.ensures))
