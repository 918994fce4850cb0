-- `words::minus` meets its contract: the complement of b has what b has not.
use Rattle.std.proofs.Common.{◌-◌, ◌^◌, arith}
use lib.Bits.{and_lt}
use lib.Pow.{ones_sub-lt}
use Rattle.words.proofs.Digits.{dig-and, dig-not}
use Rattle.words.proofs.Operations.{minus_made}
use Rattle.words.proofs.minus.Goals as goal

pub returns : goal.returns
returns c =
    let a = c.args.a in
    let b = c.args.b in
    let fa = c.ranges.a.fits in
    let fb = c.ranges.b.fits in
    minus_made a b _ fa fb
    (λ i l. simp dig-and (omega (arith, dig-not 64 a i fa l, dig-not 64 b i fb l)))
    (and_lt 64 a (2 ^ 64 - 1 - b) fa (ones_sub-lt 64 b))
