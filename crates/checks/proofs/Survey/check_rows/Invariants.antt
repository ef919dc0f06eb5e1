use Rattle.std.proofs.Common.{◌≡◌}
use Rattle.std.specs.Iterator.Adapters.{enumerate_count}
use Rattle.records.specs.Forms.{form_number}
use Rattle.records.proofs.Firsts.{first_fault}
use Rattle.checks.specs.Rows.{storey_rows_fault}
use Rattle.checks.proofs.Survey.check_rows.Given as goal

abbrev pub invariant-loop-i : goal.invariant-loop-i
invariant-loop-i l = first_fault (storey_rows_fault (form_number l.form) l.self.storeys.now l.self.members.now) (enumerate_count l.i-iterator) ≡ 0
