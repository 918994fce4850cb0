-- `report`, for every text and every buffer: what it answers, and the bytes it leaves.
use Rattle.std.specs.Prelude.{List, ℕ, ltb, length}
use Rattle.automaton.specs.declared.Refusal.TheVariants.{OutputLength}
use Rattle.automaton.specs.Answer.{valued, fails}
use Rattle.automaton.specs.Effect.{Effect, does}
use Rattle.text.specs.Calls.{before}
use Rattle.report.specs.Report.{report_of}

-- room for every report
abbrev pub longest : ℕ
longest = 4096

-- 16: "an output length is wrong": shorter than the longest report
unfoldable pub reporting : (text out : List ℕ) → Effect (List ℕ)
reporting text out =
    does (fails (ltb (length out) longest) OutputLength) out
    (record { answer = valued (length (report_of text)); left = before (report_of text) out })
