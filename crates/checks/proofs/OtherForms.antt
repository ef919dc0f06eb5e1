-- A number that is that of no form: the refusals of a storey's members are those of the old form. And those of any number are those of the form for it.
use mathlib.Core.Path.{fun_ext}
use Rattle.std.proofs.Common.{ℕ, ◌≡◌, false, refl, ap, List, length}
use Rattle.records.specs.declared.Member.{Member}
use Rattle.records.specs.Notation.{first}
use Rattle.records.specs.Forms.{form_number, form_for}
use Rattle.records.specs.Records.{known_form}
use Rattle.records.proofs.OtherForms.{member_fault-other, member_fault_for}
use Rattle.checks.specs.Rows.{member_in, member_rows_fault, row_fault}

module _ (n : ℕ) (unknown : known_form n ≡ false) (ms : List Member) where
  pub row_fault-other : (j : ℕ) → row_fault n ms j ≡ row_fault 1 ms j
  unfolding row_fault
  row_fault-other j = rw (member_fault-other n unknown (member_in ms j)) refl

  pub member_rows_fault-other : member_rows_fault n ms ≡ member_rows_fault 1 ms
  unfolding member_rows_fault
  member_rows_fault-other = ap (λ (f : ℕ → ℕ). first 0 (λ r. r) f (length ms)) (fun_ext row_fault-other)

row_fault_for : (n : ℕ) (ms : List Member) (j : ℕ) → row_fault n ms j ≡ row_fault (form_number (form_for n)) ms j
unfolding row_fault
row_fault_for n ms j = rw (member_fault_for n (member_in ms j)) refl

pub member_rows_fault_for : (n : ℕ) (ms : List Member) → member_rows_fault n ms ≡ member_rows_fault (form_number (form_for n)) ms
unfolding member_rows_fault
member_rows_fault_for n ms = ap (λ (f : ℕ → ℕ). first 0 (λ r. r) f (length ms)) (fun_ext (row_fault_for n ms))
