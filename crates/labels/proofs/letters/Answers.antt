-- `letters` meets its contract: a label whose brackets nest 16 deep at most, and the `]` that ends it.
use Rattle.std.proofs.Common.{sym, subst, Result}
use Rattle.automaton.specs.declared.Refusal.{Refusal}
use Rattle.tokens.specs.Tokens.{token_from}
use Rattle.labels.specs.declared.Lettered.{Lettered}
use Rattle.labels.specs.Letters.{Lettering}
use Rattle.labels.proofs.Reach.{is-on}
use Rattle.labels.proofs.Units.{lettering}
use Rattle.labels.proofs.letters.Goals as goal

pub ended-requires : goal.ended-requires
ended-requires c = (is-on c.args.text.now c.in_ok-read.ensures.reading.is c.requires.from_in_bounds).1

pub returns : goal.returns
returns c =
    let T = token_from c.args.text.now in
    subst (λ (y : Result Lettered Refusal). Lettering T c.args.props c.args.from y) (sym c.ended.ensures)
    (lettering T c.args.props c.args.from c.in_ok-read.read c.in_ok-read.ensures.reading c.in_ok-read.ensures.whole)
