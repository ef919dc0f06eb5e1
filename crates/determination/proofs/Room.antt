-- A sheet of the rows that are lent has at most `sheet_most` bytes. With a buffer of that length
-- `determine` never prints `E` with 9.
use Prim.Native.Nat.{ℕ, ◌≤◌}
use native.Mathlib.Omega.{arith}
use mathlib.Core.Bool.{Bool, true, false}
use mathlib.Core.List.{List}
use mathlib.Core.Path.{◌≡◌, refl, sym}
use lib.Dec.{eqb}
use lib.ListN.{length}
use borrow.Author.Tests.{eqb-true, le-leb}
use Rattle.records.specs.Records.{Survey, in_cases}
use Rattle.format.specs.Lines.{header_at}
use Rattle.reading.specs.Survey.{Outcome, accepted, form_of, survey, survey_fault, storey}
use Rattle.reading.specs.Answer.{told, form_told, storeys_told}
use Rattle.reading.proofs.Numbers.{length-listed, length-members, form-is}
use Rattle.reading.proofs.Accepted.{lies}
use Rattle.report.specs.Sheet.{sheet, report_fault}
use Rattle.report.specs.Printing.{sheet_size}
use Rattle.report.proofs.Called.{length-sheet}
use Rattle.determination.specs.Determination.{storey_rows, member_rows, sheet_most}
use Rattle.determination.proofs.Outcomes.{storeys_in, members_in}
use Rattle.checks.specs.Rows.{records_fault}

abbrev Held : ℕ → ℕ → Outcome → Type 0
Held srows mrows o = (length (storeys_in o) ≤ srows) × (length (members_in o) ≤ mrows)

module _ (s : List ℕ) (srows mrows : ℕ) where
  held_by : (t : Bool) → eqb (survey_fault s srows mrows).number 0 ≡ t → Held srows mrows (survey s srows mrows)
  unfolding survey
  held_by true e =
      let form = form_of s in
      let n = (header_at form s 0).count in
      let f : form ≡ form_told (told (survey s srows mrows)) = rw e (sym (form-is form s 0)) in
      let q : n ≡ storeys_told (told (survey s srows mrows)) = rw e (sym (length-listed (storey form s) n)) in
      let l = lies s srows mrows form n (f, q) in
      rw e (omega (arith, length-listed (storey form s) n, l.1), omega (arith, length-members form s n, l.2))
  held_by false e = rw e (omega arith, omega arith)

  -- an accepted file has no more records than rows
  pub held : Held srows mrows (survey s srows mrows)
  held = held_by (eqb (survey_fault s srows mrows).number 0) refl

-- a sheet of the old form is the shorter
module _ (form storeys members : ℕ) (few : (storeys ≤ storey_rows) × (members ≤ member_rows)) where
  size-by : (t : Bool) → in_cases form ≡ t → sheet_size form storeys members ≤ sheet_most
  size-by true e = rw e (omega arith)
  size-by false e = rw e (omega arith)

  size-most : sheet_size form storeys members ≤ sheet_most
  size-most = size-by (in_cases form) refl

module _ (a : Survey) (room : ℕ) (few : Held storey_rows member_rows (accepted a)) (enough : sheet_most ≤ room) where
  by-building : (t : Bool) → eqb (records_fault a) 0 ≡ t → report_fault a room ≡ records_fault a
  unfolding report_fault
  by-building true e =
      let none = eqb-true (records_fault a) 0 e in
      let most = size-most a.header.form (length a.storeys) (length a.members) few in
      let fits : length (sheet a) ≤ room = omega (arith, length-sheet a.header a.storeys a.members none) in
      rw (none, le-leb (length (sheet a)) room fits)
  by-building false e = rw e

-- a file that is read has no refusal 9
pub never-nine : (s : List ℕ) (a : Survey) (room : ℕ) → survey s storey_rows member_rows ≡ accepted a → sheet_most ≤ room → report_fault a room ≡ records_fault a
never-nine s a room e enough = by-building a room (rw e at (held s storey_rows member_rows)) enough (eqb (records_fault a) 0) refl
