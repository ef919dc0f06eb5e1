use Rattle.records.specs.Forms.{form_number}
use Rattle.checks.specs.RowsInTurn.{storeys_left, members_left}
use Rattle.columns.proofs.Written.{Remaining}
use Rattle.writing.specs.File.{storeys_text}
use Rattle.writing.proofs.lines.put_storeys.Given as goal

abbrev pub invariant-loop-storey : goal.invariant-loop-storey
invariant-loop-storey l =
    Remaining (storeys_text (form_number l.form) (storeys_left l.storey-iterator) (members_left l.storey-iterator)) (storeys_text (form_number l.form) l.survey.storeys.now l.survey.members.now) l.initial.writer l.writer
