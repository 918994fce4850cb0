-- `relate_hanoi::main` is safe and ends: there is room for the report, and the bytes that it counts lie in the buffer.
use Rattle.std.proofs.Common.{◌≡◌, ◌≤◌, List, Ok, Result, arith, length, length-take-le, replicate, rules, sym, ℕ}
use Rattle.std.proofs.Math.ListN.{length-replicate}
use Rattle.automaton.specs.declared.Refusal.{Refusal}
use Rattle.automaton.specs.Answer.{answered, valued}
use Rattle.hanoi_report.specs.Report.{Reports}
use Rattle.hanoi_report.proofs.Told.{report_counted}
use Rattle.relate_hanoi.proofs.main.Goals as goal

-- the program's buffer
abbrev empty : List ℕ
empty = replicate 4096 0

counted : {file left : List ℕ} (r : Result ℕ Refusal) → Reports file empty (answered valued r) left → (n : ℕ) × (r ≡ Ok n) × (n ≤ length left)
counted r = report_counted r (omega (arith, length-replicate {A = ℕ} 4096 0))

within : {file left : List ℕ} (r : Result ℕ Refusal) (n : ℕ) → Reports file empty (answered valued r) left → r ≡ Ok n → n ≤ length left
within r n p o =
    let all = counted r p in
    let same : n ≡ all.0 = cc (all.1, o) in
    omega (arith, same, all.2)

pub unwrap-bytes-requires : goal.unwrap-bytes-requires
unwrap-bytes-requires c = let all = counted c.report.result c.report.ensures in rw all.1 (search rules)

pub slice_bounds-out-end : goal.slice_bounds-out-end
slice_bounds-out-end c = within c.report.result c.unwrap-bytes.result c.report.ensures c.unwrap-bytes.ensures

pub slice_bounds-write_all-end : goal.slice_bounds-write_all-end
slice_bounds-write_all-end c =
    sym (length-take-le c.unwrap-bytes.result c.report.new.out (within c.report.result c.unwrap-bytes.result c.report.ensures c.unwrap-bytes.ensures))
