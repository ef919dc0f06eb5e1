use Rattle.std.proofs.Common.{◌-◌}
use Rattle.format.specs.Text.{cases_text}
use Rattle.columns.proofs.Written.{Remaining}
use Rattle.writing.proofs.lines.put_cases.Given as goal

abbrev pub invariant-loop-c : goal.invariant-loop-c
invariant-loop-c l = Remaining (cases_text l.m l.c (4 - l.c)) (cases_text l.m 0 4) l.initial.writer l.writer
