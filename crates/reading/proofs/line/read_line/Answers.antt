use mathlib.Core.Path.{sym, ◌∙◌}
use Rattle.reading.proofs.Lines.{line-whole, line-read}
use Rattle.reading.proofs.line.read_line.Goals as goal

pub returns-clause-fault : goal.returns-clause-fault
returns-clause-fault c =
    let a = c.args.line.now in
    let e = c.in-Ok.ensures in
    rw c.if-row_free.true (line-whole a.kind a.file.now a.at c.in-Ok.values (sym c.is_framed.ensures ∙ c.if-is_framed.true) e.fault e.values (sym c.line_in_ranges.ensures ∙ c.if-line_in_ranges.true))

pub returns-2-clause-fault : goal.returns-2-clause-fault
returns-2-clause-fault c = let a = c.args.line.now in line-read a.kind a.file.now a.at c.args.row_free _ c.in_ok-check_line.ensures c.read_fields-2.ensures.fault
