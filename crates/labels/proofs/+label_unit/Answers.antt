-- `label` and `unit` meet their contracts, which call each other: brackets may nest less deep at each call of `label`.
-- `label` gathers the letters of the units that it reads; `unit` is an atom or a label in brackets behind a row of `!`.
use Rattle.std.proofs.Common.{◌≡◌, sym, ap, subst, Bool, true, List, ℕ, ◌<◌, ◌≤◌, ◌-◌, length, Result, arith}
use Rattle.std.proofs.lemmas.Result.{err_from_is_err_and}
use Rattle.automaton.specs.declared.Refusal.{Refusal}
use Rattle.tokens.specs.declared.Token.{Token}
use Rattle.tokens.specs.Sorts.{stands}
use Rattle.tokens.specs.Tokens.{token_from}
use Rattle.labels.specs.declared.Lettered.{Lettered}
use Rattle.labels.specs.Label.{unit as unit_level}
use Rattle.labels.specs.Parts.{Found, Reading, Nots, turned_of}
use Rattle.labels.proofs.Walk.{pushes}
use Rattle.labels.proofs.Reach.{next-on, is-on}
use Rattle.labels.proofs.Going.{going_starts, going_and, going_or, going_ends}
use Rattle.labels.proofs.Units.{here, unit-turned, unit-strayed, grouped, group-strayed, too_deep}
use Rattle.labels.proofs.+label_unit.Goals as goal

-- ---- label

pub label-loop-read-init : goal.label-loop-read-init
label-loop-read-init t c = (c.requires.0, going_starts)

pub label-returns-in_err-read-clause-reading : goal.label-returns-in_err-read-clause-reading
label-returns-in_err-read-clause-reading t c =
    let p = err_from_is_err_and c.from_residual.result c.from_residual.ensures.1 in
    rw (p.1, p.2) (λ o. pushes (c.loop-read.invariant.1.walks o) (c.in_err-read.ensures o))

pub label-token_from-x-requires : goal.label-token_from-x-requires
label-token_from-x-requires t c = (is-on c.args.text.now c.in_ok-read.ensures.is c.loop-read.invariant.0).1

-- the token behind a unit goes on, unless it is none
ahead : (s : List ℕ) {p d i m j : ℕ} {x : Token} → Found (token_from s) p unit_level d i m j → i ≤ length s → x ≡ token_from s j → stands x.sort ≡ true → (i < x.next) × (x.next ≤ length s)
ahead s f l e small =
    let over = is-on s f.is l in
    let next = next-on s e over.1 small in
    (omega arith, next.1)

pub label-loop-read-smaller-in-Or : goal.label-loop-read-smaller-in-Or
label-loop-read-smaller-in-Or t c =
    let on = ahead c.args.text.now c.in_ok-read.ensures c.loop-read.invariant.0 c.token_from-x.ensures (ap stands c.in-Or.is) in
    omega arith

pub label-loop-read-preserved-in-Or : goal.label-loop-read-preserved-in-Or
label-loop-read-preserved-in-Or t c =
    let on = ahead c.args.text.now c.in_ok-read.ensures c.loop-read.invariant.0 c.token_from-x.ensures (ap stands c.in-Or.is) in
    (on.1, going_or c.loop-read.invariant.1 c.in_ok-read.ensures (here (token_from c.args.text.now) _ c.token_from-x.ensures c.in-Or.is))

pub label-loop-read-smaller : goal.label-loop-read-smaller
label-loop-read-smaller t c =
    let on = ahead c.args.text.now c.in_ok-read.ensures c.loop-read.invariant.0 c.token_from-x.ensures (ap stands c.in-And.is) in
    omega arith

pub label-loop-read-preserved : goal.label-loop-read-preserved
label-loop-read-preserved t c =
    let on = ahead c.args.text.now c.in_ok-read.ensures c.loop-read.invariant.0 c.token_from-x.ensures (ap stands c.in-And.is) in
    (on.1, going_and c.loop-read.invariant.1 c.in_ok-read.ensures (here (token_from c.args.text.now) _ c.token_from-x.ensures c.in-And.is))

pub label-returns-in_default-clause-reading : goal.label-returns-in_default-clause-reading
label-returns-in_default-clause-reading t c = going_ends c.loop-read.invariant.1 c.in_ok-read.ensures

-- ---- unit

-- the unit behind the row, turned, is the unit
turned-back : (T : ℕ → Token) (p d i h : ℕ) (b : Bool) → Nots T i b h → {l m : Lettered} → m ≡ turned_of b l → Found T p unit_level d h l.set l.next → Found T p unit_level d i m.set m.next
turned-back T p d i h b g {l} e f = subst (λ (x : Lettered). Found T p unit_level d i x.set x.next) (sym e) (unit-turned T p d i h b g l f)

pub unit-returns-then-deeper-eq0 : goal.unit-returns-then-deeper-eq0
unit-returns-then-deeper-eq0 t c =
    let a = c.args in
    let row = c.nots-row.result in
    let T = token_from a.text.now in
    unit-strayed T a.props a.deeper a.from row.at row.odd c.nots-row.ensures.row
    (too_deep T a.props a.deeper row.at c.nots-row.ensures.behind c.if-deeper-eq0.true c.in-Group.is)

pub unit-label-requires : goal.unit-label-requires
unit-label-requires t c =
    let beyond = next-on c.args.text.now c.nots-row.ensures.behind c.nots-row.ensures.inside (ap stands c.in-Group.is) in
    (omega (arith, c.decreases), (beyond.1, c.requires.1))

pub unit-returns-in_err-inner-in-Group : goal.unit-returns-in_err-inner-in-Group
unit-returns-in_err-inner-in-Group t c =
    let a = c.args in
    let row = c.nots-row.result in
    let T = token_from a.text.now in
    let p = err_from_is_err_and c.from_residual.result c.from_residual.ensures.1 in
    rw (p.1, p.2)
    (unit-strayed T a.props a.deeper a.from row.at row.odd c.nots-row.ensures.row
    (group-strayed T a.props (a.deeper - 1) a.deeper row.at row.behind.next (omega arith) (here T row.at c.nots-row.ensures.behind c.in-Group.is) c.in_err-inner-in-Group.ensures.reading))

pub unit-ended-requires : goal.unit-ended-requires
unit-ended-requires t c =
    let beyond = next-on c.args.text.now c.nots-row.ensures.behind c.nots-row.ensures.inside (ap stands c.in-Group.is) in
    (is-on c.args.text.now c.in_ok-inner-in-Group.ensures.reading.is beyond.1).1

pub unit-returns-in_err-group-in-Group : goal.unit-returns-in_err-group-in-Group
unit-returns-in_err-group-in-Group t c =
    let a = c.args in
    let row = c.nots-row.result in
    let T = token_from a.text.now in
    let p = err_from_is_err_and c.from_residual-in_err-group-in-Group.result c.from_residual-in_err-group-in-Group.ensures.1 in
    let inner = c.in_ok-inner-in-Group in
    let read = grouped T a.props (a.deeper - 1) a.deeper row.at row.behind.next (omega arith) (here T row.at c.nots-row.ensures.behind c.in-Group.is) inner.inner inner.ensures.reading inner.ensures.whole in
    rw (p.1, p.2)
    (unit-strayed T a.props a.deeper a.from row.at row.odd c.nots-row.ensures.row
    (subst (λ (y : Result Lettered Refusal). Reading T a.props unit_level a.deeper row.at y) (sym c.in_err-group-in-Group.ensures) read))

pub unit-returns-in_ok-group-in-Group : goal.unit-returns-in_ok-group-in-Group
unit-returns-in_ok-group-in-Group t c =
    let a = c.args in
    let row = c.nots-row.result in
    let T = token_from a.text.now in
    let inner = c.in_ok-inner-in-Group in
    let group = c.in_ok-group-in-Group in
    let read = grouped T a.props (a.deeper - 1) a.deeper row.at row.behind.next (omega arith) (here T row.at c.nots-row.ensures.behind c.in-Group.is) inner.inner inner.ensures.reading inner.ensures.whole in
    turned-back T a.props a.deeper a.from row.at row.odd c.nots-row.ensures.row c.turned.ensures
    (subst (λ (y : Result Lettered Refusal). Reading T a.props unit_level a.deeper row.at y) (sym group.ensures) read)

pub unit-returns-in_err-read-in_default : goal.unit-returns-in_err-read-in_default
unit-returns-in_err-read-in_default t c =
    let a = c.args in
    let row = c.nots-row.result in
    let T = token_from a.text.now in
    let p = err_from_is_err_and c.from_residual-in_err-read-in_default.result c.from_residual-in_err-read-in_default.ensures.1 in
    rw (p.1, p.2)
    (unit-strayed T a.props a.deeper a.from row.at row.odd c.nots-row.ensures.row
    (c.in_err-read-in_default.ensures T a.deeper row.at (sym c.nots-row.ensures.behind)))

pub unit-returns-in_ok-read-in_default : goal.unit-returns-in_ok-read-in_default
unit-returns-in_ok-read-in_default t c =
    let a = c.args in
    let row = c.nots-row.result in
    let T = token_from a.text.now in
    turned-back T a.props a.deeper a.from row.at row.odd c.nots-row.ensures.row c.turned-in_default.ensures
    (c.in_ok-read-in_default.ensures T a.deeper row.at (sym c.nots-row.ensures.behind))
