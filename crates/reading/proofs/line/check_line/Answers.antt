use mathlib.Core.Path.{sym, ◌∙◌}
use Rattle.reading.proofs.Lines.{by-fields}
use Rattle.reading.proofs.line.check_line.Goals as goal

pub returns : goal.returns
returns c = let a = c.args.line.now in by-fields a.kind a.file.now a.at c.args.row_free _ (sym c.is_shaped.ensures ∙ c.if-not-is_shaped.false) c.if-not-row_free.false c.check_fields.ensures
