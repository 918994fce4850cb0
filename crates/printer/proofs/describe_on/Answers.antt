-- `describe_on` meets its contract: `settle` accepts the table, and the three parts of the text are laid one behind another.
use Rattle.std.proofs.Common.{◌≡◌, ◌∙◌, List, Ok, Result, [], ◌∷◌, ◌++◌, ℕ, ap, append-nil, length, refl, rules, sym}
use Rattle.games.specs.Settle.{settle}
use Rattle.automaton.specs.declared.Refusal.{Refusal}
use Rattle.automaton.specs.Answer.{answered, valued}
use Rattle.automaton.specs.Effect.{Effect}
use Rattle.arena.specs.Job.{Job, game_of}
use Rattle.table.specs.Calls.{settling}
use Rattle.table.proofs.Accepted.{settle-does}
use Rattle.fields.specs.Bytes.{bytes_of}
use Rattle.printer.specs.Small.{Small}
use Rattle.printer.specs.Printed.{line, pair_lines, relation_text}
use Rattle.printer.proofs.Left.{left-all, left-next, left-none, put_as}
use Rattle.printer.proofs.Within.{valued_ok}
use Rattle.printer.proofs.describe_on.Goals as goal

-- the table is settled, and the raises are counted
module _ (j : Job) (table : List ℕ) (s : Small j) (l : length table ≡ (game_of j).P) where
  settles : (r : Result ℕ Refusal) → answered valued r ≡ (settling j table).answer → r ≡ Ok (settle (game_of j)).raised
  settles r e = valued_ok r (settle (game_of j)).raised (e ∙ ap (λ (x : Effect (List ℕ)). x.answer) (settle-does j table (s.0, l)))

  leaves : (now : List ℕ) → now ≡ (settling j table).left → now ≡ (settle (game_of j)).table
  leaves now e = e ∙ ap (λ (x : Effect (List ℕ)). x.left) (settle-does j table (s.0, l))

pub unwrap-raised-requires : goal.unwrap-raised-requires
unwrap-raised-requires c =
    let ok = settles c.args.job.now c.args.table.now c.requires.small c.requires.table_len c.settle.result c.settle.ensures.result_value in
    rw ok (search rules)

pub put_pairs-told-requires : goal.put_pairs-told-requires
put_pairs-told-requires c = record {
  small = c.requires.small;
  table_value = leaves c.args.job.now c.args.table.now c.requires.small c.requires.table_len c.settle.new.table c.settle.ensures.table_after;
}

pub returns : goal.returns
returns c =
    let j = c.args.job.now in
    let raised = (settle (game_of j)).raised in
    let first = line (bytes_of "relation") (j.mode ∷ j.board.n ∷ []) in
    let last = line (bytes_of "raised") (raised ∷ []) in
    let ok = settles j c.args.table.now c.requires.small c.requires.table_len c.settle.result c.settle.ensures.result_value in
    let same : c.unwrap-raised.result ≡ raised = cc (ok, c.unwrap-raised.ensures) in
    let put = put_as c.put_pairs-told.result c.put_pairs-told.new.out (ap (λ (v : ℕ). line (bytes_of "raised") (v ∷ [])) same) (c.put.ensures.value, c.put.ensures.out_after) in
    let begun = put_as 0 c.args.out.now (ap (λ (x : Job). line (bytes_of "relation") (x.mode ∷ x.board.n ∷ [])) c.job.view_is) (c.put-begun.ensures.value, c.put-begun.ensures.out_after) in
    let one = left-next (left-all 0 (relation_text j) c.args.out.now) first (pair_lines j ++ last) refl c.put-begun.result c.put-begun.new.out begun.0 begun.1 in
    let two = left-next one (pair_lines j) last refl c.put_pairs-told.result c.put_pairs-told.new.out c.put_pairs-told.ensures.value c.put_pairs-told.ensures.out_after in
    let both = left-none (left-next two last [] (sym (append-nil last)) c.put.result c.put.new.out put.0 put.1) refl in
    record { value = both.0; out_after = both.1 }
