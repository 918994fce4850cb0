-- What a report comes to: one list of bytes for each file, no longer than a buffer must be.
use Rattle.std.proofs.Common.{Ok, Result, ◌≡◌, refl, sym, ap, ◌∙◌, List, ℕ, ◌≤◌, arith, length}
use Rattle.automaton.specs.declared.Refusal.TheVariants.{TooLong}
use Rattle.automaton.specs.Answer.{Answer, answered, Fault, none, fault, first_fault, valued}
use Rattle.automaton.specs.declared.Refusal.{Refusal}
use Rattle.tokens.specs.Tokens.{token_from}
use Rattle.fields.specs.Bytes.{laid, stop}
use Rattle.fields.proofs.Laid.{laid-whole, stop-whole}
use Rattle.text.specs.Calls.{before}
use Rattle.printer.specs.Printed.{relation_text, told}
use Rattle.printer.proofs.Fits.{refusal_fits, relation_fits}
use Rattle.report.proofs.One.{one_reported}
use Rattle.report.specs.Calls.{longest}
use Rattle.report.proofs.Reading.{before-long}
use Rattle.hanoi.specs.Calls.{judgements, Legible}
use Rattle.hanoi.specs.File.{File}
use Rattle.hanoi.specs.Reading as outcome
use Rattle.hanoi.proofs.Accepted.{judged_line}
use Rattle.hanoi.proofs.Exact.{comes_file}
use Rattle.hanoi.proofs.One.{comes_one}
use Rattle.hanoi.proofs.Places.{comes_within, judged_to}
use Rattle.hanoi_report.specs.Report.{program, job_in, printed_of, Prints, too_long, read, Reports, short, printed}
use Rattle.hanoi_report.proofs.Reading.{legible_small}

-- each file is printed in one way
pub prints_one : {file l m : List ℕ} → Prints file l → Prints file m → l ≡ m
prints_one (too_long h e) (too_long k d) = e ∙ sym d
prints_one (too_long h e) (read k w d) = absurd (omega arith)
prints_one (read h w e) (too_long k d) = absurd (omega arith)
prints_one (read h w e) (read k v d) = e ∙ ap printed_of (comes_one w v) ∙ sym d

-- any two results that meet the promise coincide
pub reports_one : {file out : List ℕ} {a b : Answer} {l m : List ℕ} → Reports file out a l → Reports file out b m → (a ≡ b) × (l ≡ m)
reports_one (short h e d) (short k f g) = (e ∙ sym f, d ∙ sym g)
reports_one (short h e d) (printed k p f g) = absurd (omega arith)
reports_one (printed h p e d) (short k f g) = absurd (omega arith)
reports_one {out = out} (printed h p e d) (printed k q f g) =
    let same = prints_one p q in
    (e ∙ ap (λ (x : List ℕ). valued (length x)) same ∙ sym f, d ∙ ap (λ (x : List ℕ). before x out) same ∙ sym g)

-- there is room for every report
whole_fits : (file : List ℕ) (f : File) → length file ≤ program.bytes → outcome.Comes (token_from file) (outcome.whole f) → (g : Fault) → first_fault (judgements program f) ≡ g
    → length (told g (relation_text (job_in f))) ≤ longest
whole_fits file f h w none e =
    let j = (judged_line program f).0 e in
    let L : Legible file program f = record { short = h; is_file = comes_file.0 w; some = j.0.0; few = j.0.1; states_within = j.2.0; letters_within = j.2.1; started = j.3 } in
    relation_fits (job_in f) (legible_small L)
whole_fits file f h w (fault r) e = refusal_fits r (omega (arith, judged_to program f r e))

pub prints_fit : {file l : List ℕ} → Prints file l → length l ≤ longest
prints_fit (too_long h e) = rw e (refusal_fits TooLong (omega arith))
prints_fit {file} (read {o = outcome.refused r} h w e) = rw e (refusal_fits r (omega (arith, comes_within file w)))
prints_fit {file} (read {o = outcome.whole f} h w e) = rw e (whole_fits file f h w (first_fault (judgements program f)) refl)

-- the bytes put are the report
pub report-put : {file out l : List ℕ} → longest ≤ length out → Prints file l → (place : ℕ) (now : List ℕ) → (place ≡ stop 0 l out) × (now ≡ laid 0 l out)
    → Reports file out (valued place) now
report-put {out = out} {l = l} h p place now e =
    let room : length l ≤ length out = omega (arith, prints_fit p) in
    printed h p (ap valued (e.0 ∙ stop-whole l out room)) (e.1 ∙ laid-whole l out room)

-- the buffer keeps its length
report-long : {file out : List ℕ} {a : Answer} {left : List ℕ} → Reports file out a left → length left ≡ length out
report-long (short h e d) = ap length d
report-long {out = out} (printed {l = l} h p e d) = ap length d ∙ before-long l out (omega (arith, prints_fit p))

-- in a buffer with room a report is counted, and the bytes counted lie in it
pub report_counted : {file out left : List ℕ} (r : Result ℕ Refusal) → longest ≤ length out → Reports file out (answered valued r) left → (n : ℕ) × (r ≡ Ok n) × (n ≤ length left)
report_counted r h (short k e d) = absurd (omega arith)
report_counted r h (printed {l = l} k p e d) =
    (length l, one_reported r (Ok (length l)) e, omega (arith, prints_fit p, report-long (printed k p e d)))
