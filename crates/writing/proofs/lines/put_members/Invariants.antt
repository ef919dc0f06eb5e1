use Rattle.std.proofs.Common.{drop}
use Rattle.records.specs.Forms.{form_number}
use Rattle.columns.proofs.Written.{Remaining}
use Rattle.writing.specs.File.{members_text}
use Rattle.writing.proofs.lines.put_members.Given as goal

abbrev pub invariant-loop-m : goal.invariant-loop-m
invariant-loop-m l = Remaining (members_text (form_number l.form) (drop l.m-index l.rows)) (members_text (form_number l.form) l.rows) l.initial.writer l.writer
