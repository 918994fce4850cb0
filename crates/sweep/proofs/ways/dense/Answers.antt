-- `sweep::ways::dense` meets its contract: the products are small.
use Rattle.std.proofs.Common.{ℕ, ◌+◌, ◌*◌, ◌≤◌, mul-le-mul, arith}
use Rattle.sweep.proofs.ways.dense.Goals as goal

most : (n k moves : ℕ) → n ≤ 64 → k ≤ 16 → moves ≤ 65536 → (n * k ≤ 1024) × (n * (n * k + moves) ≤ 4259840)
most n k moves hn hk hm =
    let words : n * k ≤ 1024 = mul-le-mul {n₂ = 64} {m₂ = 16} hn hk in
    (words, mul-le-mul {n₁ = n} {m₁ = n * k + moves} {n₂ = 64} {m₂ = 66560} hn (omega arith))

pub overflow_mul-result : goal.overflow_mul-result
overflow_mul-result c =
    let within : let n = c.args.g.states in let k = c.args.g.letters in (n * k ≤ 1024) × (n * (n * k + c.args.moves) ≤ 4259840) = most _ _ _ c.requires.0 c.requires.1 c.if-moves-le65536.true in
    omega (arith, within.0)

pub overflow_add-result : goal.overflow_add-result
overflow_add-result c =
    let within : let n = c.args.g.states in let k = c.args.g.letters in (n * k ≤ 1024) × (n * (n * k + c.args.moves) ≤ 4259840) = most _ _ _ c.requires.0 c.requires.1 c.if-moves-le65536.true in
    omega (arith, within.0, c.if-moves-le65536.true)

pub overflow_mul-result-then-moves-le65536 : goal.overflow_mul-result-then-moves-le65536
overflow_mul-result-then-moves-le65536 c =
    let within : let n = c.args.g.states in let k = c.args.g.letters in (n * k ≤ 1024) × (n * (n * k + c.args.moves) ≤ 4259840) = most _ _ _ c.requires.0 c.requires.1 c.if-moves-le65536.true in
    omega (arith, within.1)
