use Rattle.std.proofs.Common.{drop}
use Rattle.records.specs.Forms.{form_number}
use Rattle.storeys.proofs.Loops.{Going}
use Rattle.columns.proofs.Written.{Remaining}
use Rattle.report.specs.Sheet.{member_lines}
use Rattle.report.proofs.printed.StoreyCase.put_members.Given as goal

abbrev pub invariant-loop-m : goal.invariant-loop-m
invariant-loop-m l =
    let s = l.self.good in
    let lines = member_lines (form_number s.form) s.level.hundredths l.met l.self.case in record {
      totals : Going s.level.hundredths l.met l.self.case s.members.now l.tally l.m-index;
      left : Remaining (lines (drop l.m-index s.members.now)) (lines s.members.now) l.initial.writer l.writer;
    }
