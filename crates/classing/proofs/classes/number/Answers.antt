-- `classing::classes::number` meets its contract.
use Rattle.std.proofs.Common.{◌≡◌, sym, ap, ◌∙◌, List, ℕ, ◌+◌, ◌<◌, eqb, get_or, set, add-one, length-set, arith, eq-eqb, ne_eqb}
use Rattle.games.specs.Play.{count}
use Rattle.games.proofs.Count.{count_most}
use Rattle.automaton.specs.Board.{Board}
use Rattle.automaton.proofs.First.{first-lowest}
use Rattle.simulation.specs.Rules.{bit}
use Rattle.simulation.specs.Quotient.{chief, class_of, equal, leads}
use Rattle.simulation.proofs.Listed.{written-more, bit-most}
use Rattle.arena.specs.Seats.{bare}
use Rattle.classing.proofs.Lists.{stored}
use Rattle.classing.proofs.classes.number.Goals.{then-least-q, else-least-q}
use Rattle.classing.proofs.classes.number.Goals as goal

pub bounds-earlier-least : goal.bounds-earlier-least
bounds-earlier-least c =
    let a = c.args in
    let least = first-lowest (equal (bare a.seats.now.arena a.seats.now.marks.now) a.seats.now.arena.mode a.seats.now.table.now c.loop-q.q) 0 c.loop-q.q in
    omega (arith, least.most)

pub overflow_add-count : goal.overflow_add-count
overflow_add-count c =
    let a = c.args in
    let least = chief (bare a.seats.now.arena a.seats.now.marks.now) a.seats.now.arena.mode a.seats.now.table.now in
    omega (arith, count_most (λ q. bit (eqb (least q) q)) (λ q. bit-most (eqb (least q) q)) c.loop-q.q)

pub loop-q-preserved : goal.loop-q-preserved
loop-q-preserved c =
    let a = c.args in
    let q = c.loop-q.q in
    let board : Board = bare a.seats.now.arena a.seats.now.marks.now in
    let least : ℕ → ℕ = chief board a.seats.now.arena.mode a.seats.now.table.now in
    let leading : ℕ → ℕ = leads (equal board a.seats.now.arena.mode a.seats.now.table.now) in
    let class : ℕ → ℕ = class_of board a.seats.now.arena.mode a.seats.now.table.now in
    let counts : List ℕ = set c.loop-q.earlier q c.loop-q.count in
    let lowest = first-lowest (equal board a.seats.now.arena.mode a.seats.now.table.now q) 0 q in
    let risen : c.if-least-q.count ≡ leading q + c.loop-q.count = elim c.if-least-q.branch [
      | then-least-q w ↦ let one : leading q ≡ 1 = ap bit (eq-eqb (least q) q (sym c.chief-least.ensures ∙ w.if-least-q.true)) in omega arith
      | else-least-q w ↦ let none : leading q ≡ 0 = ap bit (ne_eqb (least q) q (λ e. w.if-least-q.false (c.chief-least.ensures ∙ e))) in omega arith
    ] in
    let earlier : (k : ℕ) → k < q + 1 → get_or counts k 0 ≡ count leading k =
    stored (λ k x. x ≡ count leading k) c.loop-q.earlier q c.loop-q.count (omega arith) c.loop-q.invariant.earlier c.loop-q.invariant.counted in
    let class_is : get_or counts c.chief-least.result 0 ≡ class q = earlier c.chief-least.result (omega (arith, lowest.most)) ∙ ap (count leading) c.chief-least.ensures in
    record {
      sized = length-set c.loop-q.earlier q _ ∙ c.loop-q.invariant.sized;
      counted = risen ∙ ap (λ (x : ℕ). leading q + x) c.loop-q.invariant.counted ∙ ap (count leading) (sym (add-one q));
      earlier = earlier;
      written = ap (λ (x : ℕ). set c.loop-q.classes q x) class_is
          ∙ ap (λ (u : List ℕ). set u q (class q)) c.loop-q.invariant.written
          ∙ written-more class q a.classes.now (omega arith);
    }
