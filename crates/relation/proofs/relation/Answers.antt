-- `relation::relation` meets its contract: refusals 1 to 10, 12 and 16 are decided before a byte is written.
use Rattle.std.proofs.Common.{sym, ap, ◌∙◌, ◌*◌, arith}
use Rattle.std.proofs.lemmas.Result.{err_from_is_err_and}
use Rattle.automaton.specs.Answer.{valued}
use Rattle.automaton.specs.Board.{Board}
use Rattle.automaton.proofs.Effects.{both}
use Rattle.simulation.specs.Answers.{relation, related}
use Rattle.arena.proofs.Games.{opens_playable}
use Rattle.arena.proofs.Opening.{shut_effect}
use Rattle.arena.proofs.Seats.{seated, square_most}
use Rattle.table.specs.Answers.{found}
use Rattle.relation.specs.Calls.{relating}
use Rattle.relation.proofs.Bare.{bare-relation, bare-related}
use Rattle.relation.proofs.Effects.{relating-above, relating-restless, relating_misfit, relating-does}
use Rattle.relation.proofs.Opened.{faultless, board_is, mode_is}
use Rattle.relation.proofs.Tested.{rest-refused, rest-placed, rest-one}
use Rattle.relation.proofs.relation.Goals as goal

pub returns-in_err-game : goal.returns-in_err-game
unfolding relating
returns-in_err-game c =
    let a = c.args in
    let p = err_from_is_err_and c.from_residual.result c.from_residual.ensures.1 in
    let ends = both (sym (shut_effect a.job.now a.table.now a.out.now _ _ c.in_err-game.ensures)) in
    record { result_value = rw (p.1, p.2) ends.0; out_after = ends.1 }

pub returns-in_err-lowest : goal.returns-in_err-lowest
returns-in_err-lowest c =
    let a = c.args in
    let j = a.job.now in
    let t = a.table.now in
    let o = faultless j t c.in_ok-game.game c.in_ok-game.ensures in
    let p = err_from_is_err_and c.from_residual-in_err-lowest.result c.from_residual-in_err-lowest.ensures.1 in
    let ends = both (sym (relating-above j t o a.out.now _ (rest-refused j t o _ c.in_err-lowest.ensures))) in
    record { result_value = rw (p.1, p.2) ends.0; out_after = ends.1 }

pub returns-in-Some : goal.returns-in-Some
returns-in-Some c =
    let a = c.args in
    let j = a.job.now in
    let t = a.table.now in
    let o = faultless j t c.in_ok-game.game c.in_ok-game.ensures in
    let ends = both (sym (relating-restless j t o a.out.now _ (rest-placed j t o c.in-Some.lowest (sym (ap found c.in-Some.is) ∙ c.in_ok-lowest.ensures)))) in
    record { result_value = ends.0; out_after = ends.1 }

pub overflow_mul-states : goal.overflow_mul-states
overflow_mul-states c =
    let a = c.args in
    let g = c.in_ok-game.game in
    let t = a.table.now in
    omega (arith, square_most g.arena g.marks.now t (seated g.arena g.marks.now g.moves.now t (opens_playable a.job.now t g c.in_ok-game.ensures)))

pub returns-then-out-states : goal.returns-then-out-states
returns-then-out-states c =
    let a = c.args in
    let j = a.job.now in
    let t = a.table.now in
    let opens = c.in_ok-game.ensures in
    let o = faultless j t c.in_ok-game.game opens in
    let states = ap (λ (B : Board). B.n * B.n) (board_is j t c.in_ok-game.game opens) in
    let rests = rest-one j t o (sym (ap found c.in_default.is) ∙ c.in_ok-lowest.ensures) in
    let ends = both (sym (relating_misfit j t o a.out.now rests (λ e. c.if-out-states.true (e ∙ sym states)))) in
    record { result_value = ends.0; out_after = ends.1 }

pub invariant_of-seats : goal.invariant_of-seats
invariant_of-seats c =
    let a = c.args in
    let g = c.in_ok-game.game in
    record { seated = seated g.arena g.marks.now g.moves.now a.table.now (opens_playable a.job.now a.table.now g c.in_ok-game.ensures) }

pub returns : goal.returns
returns c =
    let a = c.args in
    let j = a.job.now in
    let t = a.table.now in
    let g = c.in_ok-game.game in
    let opens = c.in_ok-game.ensures in
    let o = faultless j t g opens in
    let states = ap (λ (B : Board). B.n * B.n) (board_is j t g opens) in
    let rests = rest-one j t o (sym (ap found c.in_default.is) ∙ c.in_ok-lowest.ensures) in
    let ends = both (sym (relating-does j t o a.out.now rests (c.if-out-states.false ∙ states))) in
    record {
      result_value = ap valued
          (c.fill.ensures.value
          ∙ bare-related g.arena g.marks.now g.moves.now t
          ∙ (λ i. related (board_is j t g opens i) (mode_is j t g opens i) t))
          ∙ ends.0;
      out_after = c.fill.ensures.out_after
          ∙ bare-relation g.arena g.marks.now g.moves.now t
          ∙ (λ i. relation (board_is j t g opens i) (mode_is j t g opens i) t)
          ∙ ends.1;
    }
