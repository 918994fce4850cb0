-- `refuse` meets its contract: the line of the refusal's number and place.
use Rattle.std.proofs.Common.{ap, ◌∙◌, [], ◌∷◌, ℕ}
use Rattle.automaton.specs.Answer.{number_of}
use Rattle.fields.specs.Bytes.{bytes_of}
use Rattle.printer.specs.Printed.{line}
use Rattle.printer.proofs.Left.{put_as}
use Rattle.printer.proofs.refuse.Goals as goal

pub returns : goal.returns
returns c =
    let a = c.args in
    let both = put_as 0 a.out.now
    (ap (λ (v : ℕ). line (bytes_of "refused") (v ∷ c.place.result ∷ [])) c.number.ensures ∙ ap (λ (v : ℕ). line (bytes_of "refused") (number_of a.refusal ∷ v ∷ [])) c.place.ensures) (c.put.ensures.value, c.put.ensures.out_after) in
    record { value = both.0; out_after = both.1 }
