-- `Reader::next` meets its contract: the newline that is found ends the line, or the text ends it.
use Rattle.std.proofs.Common.{◌≡◌, suc, ◌+◌, ◌-◌, arith, sym}
use Rattle.fields.specs.Bytes.{newline}
use Rattle.lines.specs.Reader.{far}
use Rattle.lines.proofs.Pieces.{to_end, read-ended, read_open}
use Rattle.lines.proofs.reader.Reader.next.Goals as goal

pub returns-then-text-at : goal.returns-then-text-at
returns-then-text-at c = sym (read_open c.args.self.text.now c.args.self.at (omega arith))

pub returns-in-None : goal.returns-in-None
returns-in-None c =
    let r = c.args.self in
    sym (read_open r.text.now r.at (omega (arith, to_end newline r.at r.text.now, c.in-None.ensures)))

pub returns-in-Some : goal.returns-in-Some
returns-in-Some c =
    let r = c.args.self in let s = r.text.now in
    let wide : c.in-Some.end - r.at ≡ far s r.at = omega (arith, to_end newline r.at s, c.in-Some.ensures.0) in
    let past : c.in-Some.end + 1 ≡ suc (r.at + far s r.at) = omega (arith, to_end newline r.at s, c.in-Some.ensures.0) in
    cc (c.read.ensures, wide, past, read-ended s r.at (omega (arith, to_end newline r.at s, c.in-Some.ensures.0, c.in-Some.ensures.1)))
