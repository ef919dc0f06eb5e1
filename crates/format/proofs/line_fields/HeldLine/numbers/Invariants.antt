use Rattle.std.proofs.Common.{◌≡◌}
use Rattle.format.proofs.Fields.{Sofar}
use Rattle.format.proofs.line_fields.HeldLine.numbers.Given as goal

abbrev pub invariant-loop-j : goal.invariant-loop-j
invariant-loop-j l =
    (goal.iterator-loop-j).can_next l.j-iterator × (goal.iterator-loop-j).is_finite l.j-iterator × (l.j-iterator.held.line ≡ l.self.line)
    × Sofar l.self.line.kind l.self.line.file.now l.self.line.at l.values l.j-iterator.j
