use Rattle.records.specs.Forms.{form_number}
use Rattle.reading.specs.Survey.{line_number}
use Rattle.reading.specs.Checks.{start_of}
use Rattle.reading.proofs.Cases.{Cased}
use Rattle.reading.proofs.survey.File.check_cases.Given as goal

abbrev pub invariant-loop-c : goal.invariant-loop-c
invariant-loop-c l = Cased (form_number l.self.form) l.self.bytes.now (start_of (form_number l.self.form) l.place) (line_number (form_number l.self.form) l.place.storeys l.place.members) l.c
