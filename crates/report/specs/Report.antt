-- What the relation program prints for a text, as bytes.
use Rattle.std.specs.Prelude.{List, ℕ}
use Rattle.arena.specs.Job.{Job}
use Rattle.printer.specs.Printed.{relation_text, told}
use Rattle.text.specs.Lines.{lines_of}
use Rattle.text.specs.Text.{head, mode, board_in, text_fault}

-- the job that a text gives
abbrev pub job_read : (text : List ℕ) → Job
job_read text = let ls = lines_of text in record { board = board_in ls; start = (head ls).start; mode = mode ls }

-- all that the program prints, from the bytes it reads
unfoldable pub report_of : (text : List ℕ) → List ℕ
report_of text = told (text_fault text) (relation_text (job_read text))
