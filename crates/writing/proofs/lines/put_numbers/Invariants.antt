use Rattle.std.proofs.Common.{drop}
use Rattle.format.specs.Text.{fields_text}
use Rattle.columns.proofs.Written.{Remaining}
use Rattle.writing.proofs.lines.put_numbers.Given as goal

abbrev pub invariant-loop-j : goal.invariant-loop-j
invariant-loop-j l = Remaining (fields_text l.kind l.j (drop l.j l.values)) (fields_text l.kind 0 l.values) l.initial.writer l.writer
