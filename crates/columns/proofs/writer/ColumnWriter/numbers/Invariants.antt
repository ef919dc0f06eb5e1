use Rattle.std.proofs.Common.{drop}
use Rattle.columns.specs.Line.{printed_numbers}
use Rattle.columns.proofs.Written.{Remaining}
use Rattle.columns.proofs.writer.ColumnWriter.numbers.Given as goal

abbrev pub invariant-loop-v : goal.invariant-loop-v
invariant-loop-v l = Remaining (printed_numbers (drop l.v-index l.values)) (printed_numbers l.values) l.initial.self l.self
