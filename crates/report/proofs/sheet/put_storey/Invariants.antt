use Rattle.std.proofs.Common.{◌≡◌, ◌-◌}
use Rattle.records.specs.Forms.{form_number}
use Rattle.records.specs.Records.{case_count}
use Rattle.records.specs.Notation.{any_below}
use Rattle.storeys.proofs.Called.{risky-in}
use Rattle.columns.proofs.Written.{Remaining}
use Rattle.report.specs.Sheet.{cases_lines, storey_lines}
use Rattle.report.proofs.sheet.put_storey.Given as goal

abbrev pub invariant-loop-case : goal.invariant-loop-case
invariant-loop-case l =
    let f = form_number l.good.form in
    let k = l.good.level.hundredths in
    let s = l.good.storey.now in
    let rows = l.good.members.now in record {
      risky : l.risky ≡ any_below (risky-in k s rows) l.case;
      left : Remaining (cases_lines f k s rows l.case (case_count f - l.case)) (storey_lines f k s rows) l.initial.writer l.writer;
    }
