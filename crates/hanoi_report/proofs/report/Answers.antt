-- `report` meets its contract: `read` refuses the file or gives a legible one, whose relation has room.
use Rattle.std.proofs.Common.{◌*◌, arith, length-take-le, refl, sym}
use Rattle.std.proofs.lemmas.Option.{none-some}
use Rattle.text.specs.Calls.{lent_of}
use Rattle.hanoi_report.specs.Report.{short}
use Rattle.hanoi_report.proofs.Reading.{bytes_few, job_fits, job_printed, marks_long, moves_long, read-given, refused-printed, states_few}
use Rattle.hanoi_report.proofs.Told.{report-put}
use Rattle.hanoi_report.proofs.report.Goals as goal

pub returns-then-out-lt-LONGEST : goal.returns-then-out-lt-LONGEST
returns-then-out-lt-LONGEST c = short c.if-out-lt-LONGEST.true refl refl

pub slice_bounds-marks-end : goal.slice_bounds-marks-end
slice_bounds-marks-end c =
    let given = read-given c.args.file.now c.in-Ok.reading (lent_of c.read.new.marks c.read.new.moves) c.in-Ok.ensures in
    omega (arith, states_few given, marks_long given)

pub slice_bounds-job-end : goal.slice_bounds-job-end
slice_bounds-job-end c =
    let given = read-given c.args.file.now c.in-Ok.reading (lent_of c.read.new.marks c.read.new.moves) c.in-Ok.ensures in
    sym (length-take-le c.in-Ok.reading.automaton.states c.read.new.marks (omega (arith, states_few given, marks_long given)))

pub overflow_mul-moves : goal.overflow_mul-moves
overflow_mul-moves c =
    let given = read-given c.args.file.now c.in-Ok.reading (lent_of c.read.new.marks c.read.new.moves) c.in-Ok.ensures in
    omega (arith, bytes_few given)

pub slice_bounds-moves-end : goal.slice_bounds-moves-end
slice_bounds-moves-end c =
    let given = read-given c.args.file.now c.in-Ok.reading (lent_of c.read.new.marks c.read.new.moves) c.in-Ok.ensures in
    omega (arith, bytes_few given, moves_long given)

pub slice_bounds-job-end-in-Ok : goal.slice_bounds-job-end-in-Ok
slice_bounds-job-end-in-Ok c =
    let given = read-given c.args.file.now c.in-Ok.reading (lent_of c.read.new.marks c.read.new.moves) c.in-Ok.ensures in
    sym (length-take-le (c.in-Ok.reading.moves * 3) c.read.new.moves (omega (arith, bytes_few given, moves_long given)))

pub describe-requires : goal.describe-requires
describe-requires c =
    let small = job_fits (read-given c.args.file.now c.in-Ok.reading (lent_of c.read.new.marks c.read.new.moves) c.in-Ok.ensures) in
    ((small.0.0, small.0.1, λ e. none-some _ (sym e)), small.1)

pub returns-in-Ok : goal.returns-in-Ok
returns-in-Ok c =
    let given = read-given c.args.file.now c.in-Ok.reading (lent_of c.read.new.marks c.read.new.moves) c.in-Ok.ensures in
    report-put c.if-out-lt-LONGEST.false (job_printed given) _ _ (c.describe.ensures.value, c.describe.ensures.out_after)

pub returns-in-Err : goal.returns-in-Err
returns-in-Err c =
    let read = refused-printed c.args.file.now c.in-Err.refusal (lent_of c.read.new.marks c.read.new.moves) c.in-Err.ensures in
    report-put c.if-out-lt-LONGEST.false read _ _ (c.refuse.ensures.value, c.refuse.ensures.out_after)
