-- What a report comes to: the line of a refusal or the relation, whole, at the front of the buffer.
use Rattle.std.proofs.Common.{Ok, Result, ◌≡◌, refl, sym, ap, ◌∙◌, List, ℕ, ◌≤◌, ◌<◌, arith, lt-ltb, le-ltb, ltb, length}
use Rattle.automaton.specs.declared.Refusal.{Refusal}
use Rattle.automaton.specs.declared.Refusal.TheVariants.{OutputLength}
use Rattle.automaton.specs.Answer.{Fault, answered, none, fault, valued, refused}
use Rattle.automaton.specs.Effect.{Effect}
use Rattle.fields.specs.Bytes.{laid, stop}
use Rattle.fields.proofs.Laid.{laid-whole, stop-whole}
use Rattle.fields.proofs.Tests.{by_test}
use Rattle.printer.specs.Printed.{refusal_text, relation_text}
use Rattle.printer.proofs.Fits.{refusal_fits, relation_fits}
use Rattle.text.specs.Calls.{before}
use Rattle.text.specs.Text.{text_fault}
use Rattle.text.proofs.Accepted.{text_line}
use Rattle.text.proofs.Places.{text_place}
use Rattle.report.specs.Calls.{longest, reporting}
use Rattle.report.specs.Report.{job_read, report_of}
use Rattle.report.proofs.One.{one_reported}
use Rattle.report.proofs.Reading.{before-long, job_small}

module _ (text : List ℕ) where
  pub report-refused : (r : Refusal) → text_fault text ≡ fault r → report_of text ≡ refusal_text r
  unfolding report_of
  report-refused r e = simp e

  pub report-told : text_fault text ≡ none → report_of text ≡ relation_text (job_read text)
  unfolding report_of
  report-told e = simp e

  pub report_fits : length (report_of text) ≤ longest
  report_fits = go (text_fault text) refl
    where
      go : (f : Fault) → text_fault text ≡ f → length (report_of text) ≤ longest
      go none e = rw (report-told e) (relation_fits (job_read text) (job_small text ((text_line text).0 e)))
      go (fault r) e = rw (report-refused r e) (refusal_fits r (omega (arith, text_place text r e)))

  module _ (out : List ℕ) where
    abbrev printed : Effect (List ℕ)
    printed = record { answer = valued (length (report_of text)); left = before (report_of text) out }

    short_effect : length out < longest → reporting text out ≡ record { answer = refused OutputLength; left = out }
    unfolding reporting
    short_effect h = simp (lt-ltb (length out) longest h)

    pub printed-effect : longest ≤ length out → reporting text out ≡ printed
    unfolding reporting
    printed-effect h = simp (le-ltb (length out) longest h)

    pub report-short : length out < longest → (refused OutputLength ≡ (reporting text out).answer) × (out ≡ (reporting text out).left)
    report-short h = (sym (ap (λ (x : Effect (List ℕ)). x.answer) (short_effect h)), sym (ap (λ (x : Effect (List ℕ)). x.left) (short_effect h)))

    -- the bytes put are the report
    pub report-put : longest ≤ length out → (l : List ℕ) → report_of text ≡ l → (place : ℕ) (now : List ℕ) → (place ≡ stop 0 l out) × (now ≡ laid 0 l out)
        → (valued place ≡ (reporting text out).answer) × (now ≡ (reporting text out).left)
    report-put h l e place now p =
        let room : length l ≤ length out = omega (arith, report_fits, ap length e) in
        let long : place ≡ length (report_of text) = p.0 ∙ stop-whole l out room ∙ ap length (sym e) in
        let bytes : now ≡ before (report_of text) out = p.1 ∙ laid-whole l out room ∙ ap (λ (x : List ℕ). before x out) (sym e) in
        (ap valued long ∙ sym (ap (λ (x : Effect (List ℕ)). x.answer) (printed-effect h)), bytes ∙ sym (ap (λ (x : Effect (List ℕ)). x.left) (printed-effect h)))

    -- in a buffer with room the bytes of the report are counted
    pub report_counted : longest ≤ length out → (r : Result ℕ Refusal) → answered valued r ≡ (reporting text out).answer → r ≡ Ok (length (report_of text))
    report_counted h r e = one_reported r (Ok (length (report_of text))) (e ∙ ap (λ (x : Effect (List ℕ)). x.answer) (printed-effect h))

    -- the buffer keeps its length
    pub report-long : length (reporting text out).left ≡ length out
    report-long =
        by_test (length out) longest (ltb (length out) longest) refl
        (λ (few : length out < longest). ap (λ (x : Effect (List ℕ)). length x.left) (short_effect few))
        (λ (room : longest ≤ length out).
        ap (λ (x : Effect (List ℕ)). length x.left) (printed-effect room) ∙ before-long (report_of text) out (omega (arith, report_fits)))
