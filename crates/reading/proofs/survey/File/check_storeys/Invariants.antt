use Rattle.records.specs.Forms.{form_number}
use Rattle.reading.proofs.Files.{Begun}
use Rattle.reading.proofs.survey.File.check_storeys.Given as goal

abbrev pub invariant-loop-i : goal.invariant-loop-i
invariant-loop-i l = Begun (form_number l.self.form) l.self.bytes.now l.srows l.mrows l.numbers l.i l.m
