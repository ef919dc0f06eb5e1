use Rattle.std.proofs.Common.{◌≡◌, ℕ, ◌+◌}
use Rattle.records.specs.Forms.{form_number}
use Rattle.format.specs.Lines.{member_at}
use Rattle.reading.specs.Survey.{line_start}
use Rattle.reading.specs.Filling.{placed}
use Rattle.reading.proofs.survey.File.fill_members.Given as goal

abbrev pub invariant-loop-j : goal.invariant-loop-j
invariant-loop-j l = l.rows ≡ placed (λ (j : ℕ). member_at (form_number l.self.form) l.self.bytes.now (line_start (form_number l.self.form) (l.storey.storeys + 1) (l.storey.members + j))) 0 l.j l.initial.rows
