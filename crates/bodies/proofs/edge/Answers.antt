-- `edge` meets its contract: a label and a target below n make an edge, whose triples are marked.
use Rattle.std.proofs.Common.{◌≡◌, sym, ap, subst, ◌∙◌, ℕ, ◌<◌, rules, pow_mono}
use Rattle.std.proofs.lemmas.Result.{err_from_is_err_and}
use Rattle.tokens.specs.declared.Sort.TheVariants as sort
use Rattle.tokens.specs.declared.Token.{Token}
use Rattle.tokens.specs.Tokens.{token_from}
use Rattle.labels.specs.Letters.{Read}
use Rattle.labels.proofs.Reach.{labelled-on}
use Rattle.triples.specs.Triples.{Noted}
use Rattle.bodies.specs.Walk.{Led, led, in_label, no_number, no_state}
use Rattle.bodies.proofs.Shown.{shown-more, shown-beyond}
use Rattle.bodies.proofs.edge.Goals as goal

-- what the token that was read is, told of the text
told : {x y : Token} → x ≡ y → {r : ℕ} → x.sort ≡ sort.Number r → y.sort ≡ sort.Number r
told e f = sym (ap (λ (z : Token). z.sort) e) ∙ f

-- the edge, where the token behind the label is a number below n
edge-led : (T : ℕ → Token) (n p q i : ℕ) {m j r : ℕ} {x : Token} (l : Read T p i m j) → x ≡ T j → x.sort ≡ sort.Number r → r < n
    → Led T n p q i (record { from = q; label = l.label; to = r }) x.next
edge-led T n p q i l e f b = led l.labelled (told e f, sym (ap (λ (z : Token). z.next) e)) b

pub returns-in_err-label : goal.returns-in_err-label
returns-in_err-label c = let p = err_from_is_err_and c.from_residual.result c.from_residual.ensures.1 in rw (p.1, p.2) (in_label c.in_err-label.ensures)

pub token_from-x-requires : goal.token_from-x-requires
token_from-x-requires c = (labelled-on c.args.text.now c.in_ok-label.ensures.labelled c.requires.from_in_bounds).1

pub returns-then-states-r : goal.returns-then-states-r
returns-then-states-r c =
    let e = c.token_from-x.ensures in
    no_state c.in_ok-label.ensures.labelled (told e c.in-Number.is) c.if-states-r.true (ap (λ (y : Token). y.at) (sym e))

pub note-requires-clause-states_le_most_states : goal.note-requires-clause-states_le_most_states
note-requires-clause-states_le_most_states c = (search rules, rw c.letters_of.ensures (pow_mono c.requires.props_bound))

pub returns-then-states-le-STATES : goal.returns-then-states-le-STATES
returns-then-states-le-STATES c =
    let a = c.args in
    let T = token_from a.text.now in
    let m = c.in_ok-label.label.set in
    let r = c.in-Number.r in
    let after = c.note.new.seen in
    let read = c.in_ok-label.ensures in
    let by = subst (λ (k : ℕ). Noted a.states k a.q m r k a.seen.now after) c.letters_of.ensures c.note.ensures in
    record { edge = _; led = edge-led T a.states a.props a.q a.from read c.token_from-x.ensures c.in-Number.is c.if-states-r.false; shown = λ es. shown-more a.states a.props a.q m r read.label c.requires.props_bound read.agrees es a.seen.now after by }

pub returns-else-states-le-STATES : goal.returns-else-states-le-STATES
returns-else-states-le-STATES c =
    let a = c.args in
    record { edge = _; led = edge-led (token_from a.text.now) a.states a.props a.q a.from c.in_ok-label.ensures c.token_from-x.ensures c.in-Number.is c.if-states-r.false; shown = λ es. shown-beyond _ c.if-states-le-STATES.false }

pub returns-in_default : goal.returns-in_default
returns-in_default c =
    let e = c.token_from-x.ensures in
    no_number c.in_ok-label.ensures.labelled (λ v f. c.in_default.not-Number v (ap (λ (y : Token). y.sort) e ∙ f)) (ap (λ (y : Token). y.at) (sym e))
