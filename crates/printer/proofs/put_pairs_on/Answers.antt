-- `put_pairs_on` meets its contract: `relation` and `for_table` accept the settled table, and the bytes are those of its relation.
use Rattle.std.proofs.Common.{◌≡◌, ◌∙◌, Err, List, Ok, Result, ℕ, ◌*◌, ap, length, refl, rules, sym}
use Rattle.games.specs.Settle.{settle}
use Rattle.automaton.specs.declared.Refusal.{Refusal}
use Rattle.automaton.specs.Answer.{answered, valued}
use Rattle.automaton.specs.Effect.{Effect}
use Rattle.simulation.specs.Answers.{related, relation}
use Rattle.arena.specs.declared.Arena.{Arena}
use Rattle.arena.specs.Arena.{opened}
use Rattle.arena.specs.Job.{Job, game_of, mode_of}
use Rattle.arena.specs.Seats.{bare}
use Rattle.arena.proofs.Open.{open_ready}
use Rattle.arena.proofs.Seats.{seated}
use Rattle.relation.specs.Calls.{relating}
use Rattle.printer.specs.Small.{Small}
use Rattle.printer.specs.Printed.{pair_lines_from}
use Rattle.printer.proofs.Bare.{open_lines, open_relation}
use Rattle.printer.proofs.Left.{put_as}
use Rattle.printer.proofs.Within.{not_shut, settled_fits, settled_relates, valued_ok}
use Rattle.printer.proofs.put_pairs_on.Goals as goal

-- on the settled table the two calls are accepted
module _ (j : Job) (s : Small j) (table : List ℕ) (t : table ≡ (settle (game_of j)).table) where
  module _ (out : List ℕ) (l : length out ≡ j.board.n * j.board.n) where
    relates : (r : Result ℕ Refusal) → answered valued r ≡ (relating j table out).answer → r ≡ Ok (related j.board (mode_of j.mode) table)
    relates r e = valued_ok r (related j.board (mode_of j.mode) table) (e ∙ ap (λ (x : Effect (List ℕ)). x.answer) (settled_relates j s table t out l))

    leaves : (now : List ℕ) → now ≡ (relating j table out).left → now ≡ relation j.board (mode_of j.mode) table
    leaves now e = e ∙ ap (λ (x : Effect (List ℕ)). x.left) (settled_relates j s table t out l)

  opens : (r : Result Arena Refusal) → opened j (length table) ≡ r → (g : Arena) × (r ≡ Ok g)
  opens (Ok g) e = (g, refl)
  opens (Err r) e = absurd (not_shut j table (settled_fits j s table t) r e)

pub unwrap-requires : goal.unwrap-requires
unwrap-requires c =
    let ok = relates c.args.job.now c.requires.small c.args.table.now c.requires.table_value c.args.related.now c.requires.related_len c.relation.result c.relation.ensures.result_value in
    rw ok (search rules)

pub unwrap-arena-requires : goal.unwrap-arena-requires
unwrap-arena-requires c =
    let ok = opens c.args.job.now c.requires.small c.args.table.now c.requires.table_value c.for_table.result (sym c.for_table.ensures) in
    rw ok.1 (search rules)

pub invariant_of-put : goal.invariant_of-put
invariant_of-put c =
    let j = c.args.job.now in
    let is_open = sym c.for_table.ensures ∙ c.unwrap-arena.ensures in
    record { seated = rw (← c.job.view_is) at (seated c.unwrap-arena.result j.board.marks j.board.moves c.args.table.now (open_ready j c.args.table.now c.unwrap-arena.result is_open)) }

pub put-requires : goal.put-requires
put-requires c =
    let j = c.args.job.now in
    let is_open = sym c.for_table.ensures ∙ c.unwrap-arena.ensures in
    let marks : j.board.marks ≡ c.job.inside.marks.now = ap (λ (x : Job). x.board.marks) (sym c.job.view_is) in
    let bytes = leaves j c.requires.small c.args.table.now c.requires.table_value c.args.related.now c.requires.related_len c.relation.new.out c.relation.ensures.out_after in
    record { related_value = bytes ∙ sym (open_relation j c.args.table.now c.unwrap-arena.result is_open) ∙ ap (λ (ms : List ℕ). relation (bare c.unwrap-arena.result ms) c.unwrap-arena.result.mode c.args.table.now) marks }

pub returns : goal.returns
returns c =
    let j = c.args.job.now in
    let g = c.unwrap-arena.result in
    let is_open = sym c.for_table.ensures ∙ c.unwrap-arena.ensures in
    let marks : c.job.inside.marks.now ≡ j.board.marks = ap (λ (x : Job). x.board.marks) c.job.view_is in
    let same =
    ap (λ (ms : List ℕ). pair_lines_from (bare g ms) g.mode c.args.table.now 0 (g.states * g.states)) marks ∙
    open_lines j c.args.table.now g is_open ∙
    ap (λ (t : List ℕ). pair_lines_from j.board (mode_of j.mode) t 0 (j.board.n * j.board.n)) c.requires.table_value in
    let both = put_as c.args.at c.args.out.now same (c.put.ensures.value, c.put.ensures.out_after) in
    record { value = both.0; out_after = both.1 }
