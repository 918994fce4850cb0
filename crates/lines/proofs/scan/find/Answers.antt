-- `scan::find` meets its contract: what the search answers, told of the part that was searched.
use Rattle.std.proofs.Common.{◌≡◌, ◌∙◌, ◌+◌, ◌-◌, ℕ, ap, arith, drop, length, length-drop, length-take, sym, take}
use Rattle.lines.specs.Search.{index_of, slice}
use Rattle.lines.proofs.Searched.{found, not_found, slice_part}
use Rattle.lines.proofs.scan.find.Goals as goal

pub returns-in_default : goal.returns-in_default
returns-in_default c =
    let a = c.args in
    let xs = take (a.to - a.from) (drop a.from a.bytes.now) in
    let e : index_of a.byte (slice a.from a.to a.bytes.now) ≡ length xs = ap (index_of a.byte) (slice_part a.from a.to a.bytes.now c.requires.ordered) ∙ not_found a.byte xs c.in_default.ensures in
    let wide : length xs ≡ a.to - a.from = simp (length-take, length-drop) (omega arith) in
    e ∙ wide

pub returns : goal.returns
returns c =
    let a = c.args in
    let xs = take (a.to - a.from) (drop a.from a.bytes.now) in
    let e = found a.byte xs c.in-Some.i c.in-Some.ensures in
    let wide : length xs ≡ a.to - a.from = simp (length-take, length-drop) (omega arith) in
    (ap (λ (n : ℕ). a.from + n) (sym (ap (index_of a.byte) (slice_part a.from a.to a.bytes.now c.requires.ordered) ∙ e)), omega (arith, wide, c.in-Some.ensures.0.high))
