use Rattle.std.proofs.Common.{◌≡◌}
use Rattle.records.specs.Forms.{form_number}
use Rattle.records.proofs.Firsts.{first_fault}
use Rattle.checks.specs.Rows.{row_fault}
use Rattle.checks.proofs.check_members.Given as goal

abbrev pub invariant-loop-j : goal.invariant-loop-j
invariant-loop-j l = first_fault (row_fault (form_number l.form) l.rows) l.j ≡ 0
