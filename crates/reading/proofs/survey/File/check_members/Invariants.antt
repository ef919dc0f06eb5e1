use Rattle.records.specs.Forms.{form_number}
use Rattle.reading.proofs.Storeys.{Turn}
use Rattle.reading.proofs.survey.File.check_members.Given as goal

abbrev pub invariant-loop-j : goal.invariant-loop-j
invariant-loop-j l = Turn (form_number l.self.form) l.self.bytes.now l.rows l.storey.storeys l.storey.members l.count l.numbers l.j
