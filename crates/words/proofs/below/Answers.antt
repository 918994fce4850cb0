-- `words::below` meets its contract: the digits of 2 ^ n - 1 are 1 below n and 0 from n on.
use Rattle.std.proofs.Common.{◌≡◌, ap, ℕ, ◌*◌, ◌-◌, ◌%◌, ◌^◌, arith}
use Rattle.words.proofs.Operations.{bit_of, below_made}
use Rattle.words.proofs.below.Goals as goal

pub returns-then-n-eq64 : goal.returns-then-n-eq64
returns-then-n-eq64 c = rw c.if-n-eq64.true (below_made 64 _ (omega arith))

pub returns : goal.returns
returns c =
    let shifted : 1 * 2 ^ c.args.n % 2 ^ 64 ≡ 2 ^ c.args.n = bit_of c.args.n (omega arith) in
    below_made c.args.n _ (ap (λ (x : ℕ). x - 1) shifted)
