-- `read_body` meets its contract: the body is refused, or what was gathered of it is a file, which `finish` judges and writes.
use Rattle.std.proofs.Common.{refl, ap, ◌∙◌}
use Rattle.std.proofs.lemmas.Result.{err_from_is_err_and}
use Rattle.automaton.specs.Effect.{Effect}
use Rattle.tokens.specs.Tokens.{token_from}
use Rattle.headers.proofs.Reach.{few-props, held-within}
use Rattle.text.specs.Calls.{Lent, lent_of}
use Rattle.hanoi.specs.File.{File}
use Rattle.hanoi.specs.Reading.{whole, refused, in_body, to_end}
use Rattle.hanoi.specs.Calls.{read, reading}
use Rattle.hanoi.proofs.Gathered.{finished}
use Rattle.hanoi.proofs.read_body.Goals as goal

pub read-requires-clause-from_in_bounds : goal.read-requires-clause-from_in_bounds
read-requires-clause-from_in_bounds c = held-within c.args.text.now c.requires.walk

pub read-requires-clause-props_bound : goal.read-requires-clause-props_bound
read-requires-clause-props_bound c = few-props (token_from c.args.text.now) c.requires.walk

pub letters_of-requires : goal.letters_of-requires
letters_of-requires c = few-props (token_from c.args.text.now) c.requires.walk

pub returns-in_err-read : goal.returns-in_err-read
unfolding reading
returns-in_err-read c =
    let p = err_from_is_err_and c.from_residual.result c.from_residual.ensures.1 in
    rw (p.1, p.2) (read {o = refused _} c.requires.text_len_bound (in_body c.requires.walk c.in_err-read.ensures) refl refl)

pub returns : goal.returns
returns c =
    let gathered = c.in_ok-read.ensures in
    let f : File = record { header = c.args.headed.header; sheet = c.read.new.sheet; edges = gathered.edges } in
    let same = finished f c.read.new.seen c.args.limits (lent_of c.args.marks.now c.args.moves.now) c.letters_of.result c.letters_of.ensures gathered.shown in
    read {o = whole f} c.requires.text_len_bound (to_end c.requires.walk gathered.walked)
    (c.finish.ensures.result_value ∙ ap (λ (y : Effect Lent). y.answer) same)
    (c.finish.ensures.buffers_after ∙ ap (λ (y : Effect Lent). y.left) same)
