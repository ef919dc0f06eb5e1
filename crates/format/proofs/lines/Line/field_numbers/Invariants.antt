use Rattle.format.proofs.Fields.{Told}
use Rattle.format.proofs.lines.Line.field_numbers.Given as goal

abbrev pub invariant-loop-j : goal.invariant-loop-j
invariant-loop-j l = Told l.self.kind l.self.file.now l.self.at l.values l.written l.j
