-- `read` meets its contract: what reading comes to from the token that is next, it comes to from the first.
use Rattle.std.proofs.Common.{◌≡◌, sym, ap, ◌∙◌, List, ℕ, ◌≤◌, ◌<◌, length, Option, Some, arith}
use Rattle.std.proofs.lemmas.Result.{err_from_is_err_and}
use Rattle.tokens.specs.declared.Token.{Token}
use Rattle.tokens.specs.Tokens.{token_from}
use Rattle.bodies.specs.declared.Entry.{Entry}
use Rattle.bodies.specs.declared.Due.{Due}
use Rattle.bodies.specs.declared.Next.{Next}
use Rattle.bodies.specs.Stands.{step}
use Rattle.bodies.proofs.Going.{going_starts, going_knows, going_on, going_lists, going_marks, going_edge, going_astray, going_over, going_stuck}
use Rattle.bodies.proofs.On.{Onward, leads-on, led_on, number-low}
use Rattle.bodies.proofs.read.Goals as goal

-- what `step` answered of the token that was read, by what the definition says
stepped : (text : List ℕ) (i n : ℕ) (d : Due) (s : List Entry) {x : Token} {m : Option Next} → x ≡ token_from text i → m ≡ step n d s x.sort → step n d s (token_from text i).sort ≡ m
stepped text i n d s e f = ap (λ (y : Token). step n d s y.sort) (sym e) ∙ sym f

-- the place behind a token that leads on
onward : (text : List ℕ) (i n : ℕ) (d : Due) (s : List Entry) {x : Token} {r m : Next} → x ≡ token_from text i → Some r ≡ step n d s x.sort → r ≡ m → i ≤ length text → Onward m
    → (i < x.next) × (x.next ≤ length text)
onward text i n d s {m = m} e f g l on = rw (sym e) at (leads-on text i n d s m l (stepped text i n d s e f ∙ ap Some g) on)

pub loop-d-init : goal.loop-d-init
loop-d-init c =
    (c.requires.from_in_bounds, going_starts c.args.text.now c.args.states c.args.props c.args.from c.args.sheet.now c.args.seen.now c.requires.sheet_value.0 c.requires.sheet_value.1)

pub step-requires-clause-number_has_entry : goal.step-requires-clause-number_has_entry
step-requires-clause-number_has_entry c = λ v e. number-low c.args.text.now c.loop-d.at v (sym (ap (λ (y : Token). y.sort) c.token_from-x.ensures) ∙ e)

pub loop-d-smaller-in-Some-To : goal.loop-d-smaller-in-Some-To
loop-d-smaller-in-Some-To c =
    let on = onward c.args.text.now c.loop-d.at c.args.states c.loop-d.due c.loop-d.sheet c.token_from-x.ensures c.in-Some-To.ensures c.in-Some-To.field-0-is c.loop-d.invariant.0 tt in
    omega arith

pub loop-d-preserved-in-Some-To : goal.loop-d-preserved-in-Some-To
loop-d-preserved-in-Some-To c =
    let go = stepped c.args.text.now c.loop-d.at c.args.states c.loop-d.due c.loop-d.sheet c.token_from-x.ensures c.in-Some-To.ensures ∙ ap Some c.in-Some-To.field-0-is in
    let on = onward c.args.text.now c.loop-d.at c.args.states c.loop-d.due c.loop-d.sheet c.token_from-x.ensures c.in-Some-To.ensures c.in-Some-To.field-0-is c.loop-d.invariant.0 tt in
    (on.1, going_on c.loop-d.invariant.1 c.token_from-x.result.next (ap (λ (y : Token). y.next) (sym c.token_from-x.ensures)) c.in-Some-To.d go)

pub bounds-sheet-q : goal.bounds-sheet-q
bounds-sheet-q c =
    let go = stepped c.args.text.now c.loop-d.at c.args.states c.loop-d.due c.loop-d.sheet c.token_from-x.ensures c.in-Some-List.ensures ∙ ap Some c.in-Some-List.field-0-is in
    omega (arith, c.loop-d.invariant.1.room, going_knows c.loop-d.invariant.1 _ go)

pub loop-d-smaller-in-Some-List : goal.loop-d-smaller-in-Some-List
loop-d-smaller-in-Some-List c =
    let on = onward c.args.text.now c.loop-d.at c.args.states c.loop-d.due c.loop-d.sheet c.token_from-x.ensures c.in-Some-List.ensures c.in-Some-List.field-0-is c.loop-d.invariant.0 tt in
    omega arith

pub loop-d-preserved-in-Some-List : goal.loop-d-preserved-in-Some-List
loop-d-preserved-in-Some-List c =
    let go = stepped c.args.text.now c.loop-d.at c.args.states c.loop-d.due c.loop-d.sheet c.token_from-x.ensures c.in-Some-List.ensures ∙ ap Some c.in-Some-List.field-0-is in
    let on = onward c.args.text.now c.loop-d.at c.args.states c.loop-d.due c.loop-d.sheet c.token_from-x.ensures c.in-Some-List.ensures c.in-Some-List.field-0-is c.loop-d.invariant.0 tt in
    (on.1, going_lists c.loop-d.invariant.1 c.token_from-x.result.next (ap (λ (y : Token). y.next) (sym c.token_from-x.ensures)) c.in-Some-List.q go)

pub bounds-sheet-q-in-Some-Mark : goal.bounds-sheet-q-in-Some-Mark
bounds-sheet-q-in-Some-Mark c =
    let go = stepped c.args.text.now c.loop-d.at c.args.states c.loop-d.due c.loop-d.sheet c.token_from-x.ensures c.in-Some-Mark.ensures ∙ ap Some c.in-Some-Mark.field-0-is in
    omega (arith, c.loop-d.invariant.1.room, going_knows c.loop-d.invariant.1 _ go)

pub loop-d-smaller-in-Some-Mark : goal.loop-d-smaller-in-Some-Mark
loop-d-smaller-in-Some-Mark c =
    let on = onward c.args.text.now c.loop-d.at c.args.states c.loop-d.due c.loop-d.sheet c.token_from-x.ensures c.in-Some-Mark.ensures c.in-Some-Mark.field-0-is c.loop-d.invariant.0 tt in
    omega arith

pub loop-d-preserved-in-Some-Mark : goal.loop-d-preserved-in-Some-Mark
loop-d-preserved-in-Some-Mark c =
    let go = stepped c.args.text.now c.loop-d.at c.args.states c.loop-d.due c.loop-d.sheet c.token_from-x.ensures c.in-Some-Mark.ensures ∙ ap Some c.in-Some-Mark.field-0-is in
    let on = onward c.args.text.now c.loop-d.at c.args.states c.loop-d.due c.loop-d.sheet c.token_from-x.ensures c.in-Some-Mark.ensures c.in-Some-Mark.field-0-is c.loop-d.invariant.0 tt in
    (on.1, going_marks c.loop-d.invariant.1 c.token_from-x.result.next (ap (λ (y : Token). y.next) (sym c.token_from-x.ensures)) c.in-Some-Mark.q go)

pub edge-requires-clause-from_in_bounds : goal.edge-requires-clause-from_in_bounds
edge-requires-clause-from_in_bounds c =
    let on = onward c.args.text.now c.loop-d.at c.args.states c.loop-d.due c.loop-d.sheet c.token_from-x.ensures c.in-Some-Edge.ensures c.in-Some-Edge.field-0-is c.loop-d.invariant.0 tt in
    on.1

pub edge-requires-clause-q_lt_states : goal.edge-requires-clause-q_lt_states
edge-requires-clause-q_lt_states c =
    let go = stepped c.args.text.now c.loop-d.at c.args.states c.loop-d.due c.loop-d.sheet c.token_from-x.ensures c.in-Some-Edge.ensures ∙ ap Some c.in-Some-Edge.field-0-is in
    ((going_knows c.loop-d.invariant.1 _ go).0, c.loop-d.invariant.1.shown.all)

pub loop-d-smaller : goal.loop-d-smaller
loop-d-smaller c =
    let on = onward c.args.text.now c.loop-d.at c.args.states c.loop-d.due c.loop-d.sheet c.token_from-x.ensures c.in-Some-Edge.ensures c.in-Some-Edge.field-0-is c.loop-d.invariant.0 tt in
    let off = led_on c.args.text.now c.in_ok-at-in-Some-Edge.ensures.led on.1 in
    omega arith

pub loop-d-preserved : goal.loop-d-preserved
loop-d-preserved c =
    let go = stepped c.args.text.now c.loop-d.at c.args.states c.loop-d.due c.loop-d.sheet c.token_from-x.ensures c.in-Some-Edge.ensures ∙ ap Some c.in-Some-Edge.field-0-is in
    let on = onward c.args.text.now c.loop-d.at c.args.states c.loop-d.due c.loop-d.sheet c.token_from-x.ensures c.in-Some-Edge.ensures c.in-Some-Edge.field-0-is c.loop-d.invariant.0 tt in
    let a = c.in_ok-at-in-Some-Edge.ensures in
    ((led_on c.args.text.now a.led on.1).1, going_edge c.loop-d.invariant.1 c.token_from-x.result.next (ap (λ (y : Token). y.next) (sym c.token_from-x.ensures)) c.in-Some-Edge.q c.in_ok-at-in-Some-Edge.at _ go a)

pub returns-in_err-at-in-Some-Edge : goal.returns-in_err-at-in-Some-Edge
returns-in_err-at-in-Some-Edge c =
    let go = stepped c.args.text.now c.loop-d.at c.args.states c.loop-d.due c.loop-d.sheet c.token_from-x.ensures c.in-Some-Edge.ensures ∙ ap Some c.in-Some-Edge.field-0-is in
    let p = err_from_is_err_and c.from_residual.result c.from_residual.ensures.1 in
    rw (p.1, p.2) (going_astray c.loop-d.invariant.1 c.token_from-x.result.next (ap (λ (y : Token). y.next) (sym c.token_from-x.ensures)) c.in-Some-Edge.q _ go c.in_err-at-in-Some-Edge.ensures)

pub returns-in-Some-Done : goal.returns-in-Some-Done
returns-in-Some-Done c =
    let go = stepped c.args.text.now c.loop-d.at c.args.states c.loop-d.due c.loop-d.sheet c.token_from-x.ensures c.in-Some-Done.ensures ∙ ap Some c.in-Some-Done.field-0-is in
    going_over c.loop-d.invariant.1 go

pub returns-in-None : goal.returns-in-None
returns-in-None c =
    let go = stepped c.args.text.now c.loop-d.at c.args.states c.loop-d.due c.loop-d.sheet c.token_from-x.ensures c.in-None.ensures in
    going_stuck c.loop-d.invariant.1 c.token_from-x.result.at (ap (λ (y : Token). y.at) (sym c.token_from-x.ensures)) go
