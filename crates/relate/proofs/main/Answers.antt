-- `relate::main` is safe and ends: there is room for the report, and the bytes that it counts lie in the buffer.
use Rattle.std.proofs.Common.{◌≡◌, ◌∙◌, ◌≤◌, List, Ok, Result, ap, arith, length, length-take-le, replicate, rules, sym, ℕ}
use Rattle.std.proofs.Math.ListN.{length-replicate}
use Rattle.automaton.specs.declared.Refusal.{Refusal}
use Rattle.automaton.specs.Answer.{answered, valued}
use Rattle.report.specs.Calls.{reporting}
use Rattle.report.specs.Report.{report_of}
use Rattle.report.proofs.Told.{report_counted, report_fits, report-long}
use Rattle.relate.proofs.main.Goals as goal

-- the program's buffer
abbrev empty : List ℕ
empty = replicate 4096 0

counted : (text : List ℕ) (r : Result ℕ Refusal) → answered valued r ≡ (reporting text empty).answer → r ≡ Ok (length (report_of text))
counted text = report_counted text empty (omega (arith, length-replicate {A = ℕ} 4096 0))

within : (text : List ℕ) (r : Result ℕ Refusal) (now : List ℕ) (n : ℕ) → answered valued r ≡ (reporting text empty).answer → now ≡ (reporting text empty).left → r ≡ Ok n → n ≤ length now
within text r now n e l o =
    let same : n ≡ length (report_of text) = cc (counted text r e) in
    let long : length now ≡ length empty = ap length l ∙ report-long text empty in
    omega (arith, same, long, report_fits text, length-replicate {A = ℕ} 4096 0)

pub unwrap-bytes-requires : goal.unwrap-bytes-requires
unwrap-bytes-requires c = rw (counted _ c.report.result c.report.ensures.result_value) (search rules)

pub slice_bounds-out-end : goal.slice_bounds-out-end
slice_bounds-out-end c = within _ c.report.result c.report.new.out c.unwrap-bytes.result c.report.ensures.result_value c.report.ensures.out_after c.unwrap-bytes.ensures

pub slice_bounds-write_all-end : goal.slice_bounds-write_all-end
slice_bounds-write_all-end c =
    sym (length-take-le c.unwrap-bytes.result c.report.new.out (within _ c.report.result c.report.new.out c.unwrap-bytes.result c.report.ensures.result_value c.report.ensures.out_after c.unwrap-bytes.ensures))
