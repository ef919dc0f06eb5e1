use Rattle.std.proofs.Common.{◌≡◌}
use Rattle.records.specs.Forms.{form_number}
use Rattle.reading.specs.Survey.{members_before, storey}
use Rattle.reading.specs.Filling.{placed, filled_members}
use Rattle.reading.proofs.survey.File.fill.Given as goal

abbrev pub invariant-loop-i : goal.invariant-loop-i
invariant-loop-i l =
    (l.m ≡ members_before (form_number l.self.form) l.self.bytes.now l.i)
    × (l.storeys ≡ placed (storey (form_number l.self.form) l.self.bytes.now) 0 l.i l.initial.storeys)
    × (l.members ≡ filled_members (form_number l.self.form) l.self.bytes.now l.i l.initial.members)
