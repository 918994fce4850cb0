-- `tokens::token_from` meets its contract: the gap is passed, and a comment that is left open ends the text.
use Rattle.std.proofs.Common.{sym, ◌∙◌}
use Rattle.tokens.specs.Tokens.{token_from}
use Rattle.tokens.proofs.Bounds.{gap-bound}
use Rattle.tokens.proofs.token_from.Goals as goal

pub token_at-requires : goal.token_at-requires
token_at-requires c = (gap-bound c.args.text.now c.args.from c.requires (sym c.in-Some.ensures)).1

pub returns-in-Some : goal.returns-in-Some
unfolding token_from
returns-in-Some c = c.token_at.ensures ∙ simp (sym c.in-Some.ensures)

pub returns-in-None : goal.returns-in-None
unfolding token_from
returns-in-None c = c.wrong.ensures ∙ simp (sym c.in-None.ensures)
