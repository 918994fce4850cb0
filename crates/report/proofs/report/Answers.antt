-- `report::report` meets its contract: `read` refuses the text or gives a legible one, whose relation has room.
use Rattle.std.proofs.Common.{◌*◌, ◌∙◌, ap, arith, length-take-le, sym}
use Rattle.printer.specs.Printed.{refusal_text, relation_text}
use Rattle.report.proofs.Reading.{Given, bytes_few, fine, job_fits, job_is, marks_long, moves_long, refused_text, states_few}
use Rattle.report.proofs.Told.{report-refused, report-told, report-short, report-put}
use Rattle.report.proofs.report.Goals as goal

pub returns-then-out-lt-LONGEST : goal.returns-then-out-lt-LONGEST
returns-then-out-lt-LONGEST c =
    let both = report-short c.args.text.now c.args.out.now c.if-out-lt-LONGEST.true in
    record { result_value = both.0; out_after = both.1 }

pub slice_bounds-marks-end : goal.slice_bounds-marks-end
slice_bounds-marks-end c =
    let given : Given c.args.text.now c.in-Ok.reading c.read.new.marks c.read.new.moves = record { told = c.in-Ok.ensures.result_value; marked = c.read.ensures.marks_after; moved = c.read.ensures.moves_after } in
    omega (arith, states_few given, marks_long given)

pub slice_bounds-job-end : goal.slice_bounds-job-end
slice_bounds-job-end c =
    let given : Given c.args.text.now c.in-Ok.reading c.read.new.marks c.read.new.moves = record { told = c.in-Ok.ensures.result_value; marked = c.read.ensures.marks_after; moved = c.read.ensures.moves_after } in
    sym (length-take-le c.in-Ok.reading.automaton.states c.read.new.marks (omega (arith, states_few given, marks_long given)))

pub overflow_mul-moves : goal.overflow_mul-moves
overflow_mul-moves c =
    let given : Given c.args.text.now c.in-Ok.reading c.read.new.marks c.read.new.moves = record { told = c.in-Ok.ensures.result_value; marked = c.read.ensures.marks_after; moved = c.read.ensures.moves_after } in
    omega (arith, bytes_few given)

pub slice_bounds-moves-end : goal.slice_bounds-moves-end
slice_bounds-moves-end c =
    let given : Given c.args.text.now c.in-Ok.reading c.read.new.marks c.read.new.moves = record { told = c.in-Ok.ensures.result_value; marked = c.read.ensures.marks_after; moved = c.read.ensures.moves_after } in
    omega (arith, bytes_few given, moves_long given)

pub slice_bounds-job-end-in-Ok : goal.slice_bounds-job-end-in-Ok
slice_bounds-job-end-in-Ok c =
    let given : Given c.args.text.now c.in-Ok.reading c.read.new.marks c.read.new.moves = record { told = c.in-Ok.ensures.result_value; marked = c.read.ensures.marks_after; moved = c.read.ensures.moves_after } in
    sym (length-take-le (c.in-Ok.reading.moves * 3) c.read.new.moves (omega (arith, bytes_few given, moves_long given)))

pub describe-requires : goal.describe-requires
describe-requires c =
    let given : Given c.args.text.now c.in-Ok.reading c.read.new.marks c.read.new.moves = record { told = c.in-Ok.ensures.result_value; marked = c.read.ensures.marks_after; moved = c.read.ensures.moves_after } in
    job_fits given

pub returns-in-Ok : goal.returns-in-Ok
returns-in-Ok c =
    let given : Given c.args.text.now c.in-Ok.reading c.read.new.marks c.read.new.moves = record { told = c.in-Ok.ensures.result_value; marked = c.read.ensures.marks_after; moved = c.read.ensures.moves_after } in
    let report = report-told c.args.text.now (fine given) ∙ ap relation_text (sym (job_is given)) in
    let both = report-put c.args.text.now c.args.out.now c.if-out-lt-LONGEST.false _ report _ _ (c.describe.ensures.value, c.describe.ensures.out_after) in
    record { result_value = both.0; out_after = both.1 }

pub returns-in-Err : goal.returns-in-Err
returns-in-Err c =
    let text = c.args.text.now in
    let report = report-refused text c.in-Err.refusal (refused_text text c.in-Err.refusal c.in-Err.ensures.result_value) in
    let both = report-put text c.args.out.now c.if-out-lt-LONGEST.false (refusal_text c.in-Err.refusal) report _ _ (c.refuse.ensures.value, c.refuse.ensures.out_after) in
    record { result_value = both.0; out_after = both.1 }
