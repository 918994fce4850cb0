-- When `report` accepts: where there is room for the longest report, whatever the text.
use Rattle.std.proofs.Common.{◌≡◌, refl, ◌≢◌, ◌↔◌, List, ℕ, ◌≤◌, ltb-false, le-ltb, ltb, length}
use mathlib.Core.Logic.Iff
use Rattle.automaton.specs.declared.Refusal.TheVariants.{OutputLength}
use Rattle.automaton.specs.Answer.{valued, fails}
use Rattle.automaton.specs.Effect.{Refuses}
use Rattle.automaton.proofs.Effects.{does-number, does-refuse, always, alone}
use Rattle.automaton.proofs.Fault.{Line, fails-line}
use Rattle.report.specs.Calls.{longest, reporting}
use Rattle.report.specs.Report.{report_of}

module _ (text out : List ℕ) where
  room-line : Line (fails (ltb (length out) longest) OutputLength) (longest ≤ length out)
  room-line = fails-line (ltb (length out) longest) _ OutputLength (ltb-false (length out) longest, le-ltb (length out) longest)

  pub report-accepted : ((reporting text out).answer.number ≡ 0) ↔ (longest ≤ length out)
  unfolding reporting
  report-accepted = Iff.trans (does-number (fails (ltb (length out) longest) OutputLength) out _ _ _ room-line (always (valued (length (report_of text))) refl)) alone

  pub report_refuses : (reporting text out).answer.number ≢ 0 → Refuses out (reporting text out)
  unfolding reporting
  report_refuses = does-refuse (fails (ltb (length out) longest) OutputLength) out _ (λ n. absurd (n refl))
