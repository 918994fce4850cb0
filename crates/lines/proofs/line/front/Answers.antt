-- `line::front` meets its contract: the first tab ends the first field, and without one the line is one field.
use Rattle.std.proofs.Common.{◌≡◌, ◌+◌, ◌-◌, arith, drop, length, length-drop, take, take_all}
use Rattle.fields.specs.Bytes.{tab}
use Rattle.lines.specs.Search.{index_of, slice}
use Rattle.lines.proofs.Pieces.{cut_last, cut-next}
use Rattle.lines.proofs.line.front.Goals as goal

pub returns-in-Some : goal.returns-in-Some
returns-in-Some c =
    let s = c.args.line.now in let e = c.in-Some.end in
    let whole : take (length s - (e + 1)) (drop (e + 1) s) ≡ drop (e + 1) s = take_all (length s - (e + 1)) (drop (e + 1) s) (simp length-drop (omega arith)) in
    let wide : e - 0 ≡ e = omega arith in
    rw whole (rw wide at (cut-next tab 0 e s c.in-Some.ensures.0 c.in-Some.ensures.1))

pub returns-in-None : goal.returns-in-None
returns-in-None c =
    let s = c.args.line.now in
    let none : length s ≡ 0 + index_of tab (slice 0 (length s) s) = omega (arith, c.in-None.ensures) in
    let whole : take (length s - 0) s ≡ s = take_all (length s - 0) s (omega arith) in
    rw whole at (cut_last tab 0 (length s) s none (omega arith))
