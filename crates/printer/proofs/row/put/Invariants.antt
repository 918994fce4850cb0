-- `row::put` meets its contract: the fields left and the newline, put from here on, end and lie where the whole line does.
use Rattle.std.proofs.Common.{List, [], ◌∷◌, ◌++◌, ℕ, drop}
use Rattle.fields.specs.Bytes.{newline}
use Rattle.printer.specs.Printed.{tabbed}
use Rattle.printer.proofs.Left.{Left}
use Rattle.printer.proofs.row.put.Given as goal

abbrev pub rest : (values : List ℕ) → ℕ → List ℕ
rest values i = tabbed (drop i values) ++ (newline ∷ [])

abbrev pub invariant-loop-value : goal.invariant-loop-value
invariant-loop-value l = Left l.initial.to (rest l.values 0) l.initial.out l.to (rest l.values l.value-index) l.out
