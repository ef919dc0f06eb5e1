use Rattle.std.proofs.Common.{◌≡◌, ◌-◌, length}
use Rattle.records.specs.Notation.{any_below}
use Rattle.checks.specs.RowChecks.{records_of}
use Rattle.storeys.specs.Storey.{published_rules}
use Rattle.storeys.specs.FirstRisky.{risky_in}
use Rattle.columns.proofs.Written.{Remaining}
use Rattle.report.specs.Sheet.{storeys_lines}
use Rattle.report.specs.Printing.{sheet_storeys}
use Rattle.report.proofs.sheet.put_storeys.Given as goal

abbrev pub invariant-loop-storey : goal.invariant-loop-storey
invariant-loop-storey l =
    let a = records_of l.good.survey in
    let i = length l.yielded in record {
      goes : (goal.iterator-loop-storey).can_next l.storey-iterator;
      ends : (goal.iterator-loop-storey).is_finite l.storey-iterator;
      risky : l.risky ≡ any_below (risky_in published_rules a) i;
      left : Remaining (storeys_lines a.header.form a.header.knowledge a.storeys a.members i (length a.storeys - i)) (sheet_storeys a) l.initial.writer l.writer;
    }
