-- `read` meets its contract: what reading comes to from the token that is next, it comes to from the first.
use Rattle.std.proofs.Common.{◌≡◌, sym, ap, ◌∙◌, List, ℕ, ◌≤◌, ◌<◌, length, Option, Some, arith}
use Rattle.tokens.specs.declared.Token.{Token}
use Rattle.tokens.specs.Tokens.{token_from}
use Rattle.headers.specs.declared.Next.{Next}
use Rattle.headers.specs.declared.Said.{Said}
use Rattle.headers.specs.declared.Wanted.{Wanted}
use Rattle.headers.specs.Stands.{step}
use Rattle.headers.specs.Walk.{goes, over, stuck}
use Rattle.headers.proofs.On.{leads-on}
use Rattle.headers.proofs.read.Goals as goal

-- what `step` answered of the token that was read, by what the definition says
stepped : (w : Wanted) (s : Said) {x y : Token} {n : Option Next} → x ≡ y → n ≡ step w s x.sort → step w s y.sort ≡ n
stepped w s e f = ap (λ (y : Token). step w s y.sort) (sym e) ∙ sym f

-- the place behind a token that leads on
onward : (text : List ℕ) (i : ℕ) (w : Wanted) (s : Said) {x : Token} {n m : Next} → i ≤ length text → x ≡ token_from text i → Some n ≡ step w s x.sort → n ≡ m
    → (i < x.next) × (x.next ≤ length text)
onward text i w s l e f g = rw (sym e) at (leads-on text i w s _ l (stepped w s e f ∙ ap Some g))

pub loop-w-smaller : goal.loop-w-smaller
loop-w-smaller c =
    let on = onward c.args.text.now c.loop-w.at c.loop-w.wanted c.loop-w.said c.loop-w.invariant.0 c.token_from-x.ensures c.in-Some-To.ensures c.in-Some-To.field-0-is in
    omega arith

pub loop-w-preserved : goal.loop-w-preserved
loop-w-preserved c =
    let on = onward c.args.text.now c.loop-w.at c.loop-w.wanted c.loop-w.said c.loop-w.invariant.0 c.token_from-x.ensures c.in-Some-To.ensures c.in-Some-To.field-0-is in
    (on.1, λ r w. c.loop-w.invariant.1 r (goes (stepped c.loop-w.wanted c.loop-w.said c.token_from-x.ensures c.in-Some-To.ensures ∙ ap Some c.in-Some-To.field-0-is) (ap (λ x. x.next) (sym c.token_from-x.ensures)) w))

pub returns-in-Some-Body : goal.returns-in-Some-Body
returns-in-Some-Body c =
    c.loop-w.invariant.1 _
    (over (stepped c.loop-w.wanted c.loop-w.said c.token_from-x.ensures c.in-Some-Body.ensures ∙ ap Some c.in-Some-Body.field-0-is) (ap (λ x. x.next) (sym c.token_from-x.ensures)))

pub returns-in-None : goal.returns-in-None
returns-in-None c =
    c.loop-w.invariant.1 _
    (stuck (stepped c.loop-w.wanted c.loop-w.said c.token_from-x.ensures c.in-None.ensures) (ap (λ x. x.at) (sym c.token_from-x.ensures)))
