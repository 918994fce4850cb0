-- `fields::read_number` meets its contract: the digits left, read after the value so far, say what the whole field says.
use Rattle.std.proofs.Common.{arith, rules}
use Rattle.fields.proofs.Digits.{digit-end, digit-high, digit-on, digit_low, digit_much}
use Rattle.fields.proofs.read_number.Goals.{then-byte-lt48-via-then-byte-lt48, then-byte-lt48-via-else-byte-lt48+then-byte-gt57}
use Rattle.fields.proofs.read_number.Goals as goal

pub returns-then-byte-lt48 : goal.returns-then-byte-lt48
returns-then-byte-lt48 c =
    let f = c.args.field.now in
    elim c.then-byte-lt48.branch [
      | then-byte-lt48-via-then-byte-lt48 w ↦ let e = digit_low f c.loop-byte.v c.loop-byte.byte-index c.loop-byte-test.true (omega arith) in cc
      | then-byte-lt48-via-else-byte-lt48+then-byte-gt57 w ↦ let e = digit-high f c.loop-byte.v c.loop-byte.byte-index c.loop-byte-test.true (omega arith) (omega arith) in cc
    ]

pub returns-then-v-gt-LARGEST : goal.returns-then-v-gt-LARGEST
returns-then-v-gt-LARGEST c =
    let e = digit_much c.args.field.now c.loop-byte.v c.loop-byte.byte-index c.loop-byte-test.true (omega arith) (omega arith) (omega arith) in cc

pub loop-byte-preserved : goal.loop-byte-preserved
loop-byte-preserved c =
    let e = digit-on c.args.field.now c.loop-byte.v c.loop-byte.byte-index c.loop-byte-test.true (omega arith) (omega arith) (omega arith) in
    record { small = search rules; left = cc }

pub returns : goal.returns
returns c = let e = digit-end c.args.field.now c.loop-byte.v c.loop-byte.byte-index (omega arith) in cc
