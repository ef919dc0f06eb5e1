-- The lines of a sheet's storeys, and how many bytes its lines take.
use Rattle.std.specs.Prelude.{ℕ, ◌+◌, ◌*◌, List, length}
use Rattle.checks.specs.Rows.{Survey}
use Rattle.report.specs.Sheet.{storeys_lines}
use Rattle.columns.specs.Line.{sheet_line_size}
use Rattle.records.specs.Notation.{pick}
use Rattle.records.specs.Records.{in_cases, case_count}

-- the lines of the storeys of a survey
abbrev pub sheet_storeys : Survey → List ℕ
sheet_storeys a = storeys_lines a.header.form a.header.knowledge a.storeys a.members 0 (length a.storeys)

-- a line: `M` has 7 fields, `S` 6, in four cases one more each; `B` has 2
abbrev pub member_line_size : ℕ → ℕ
member_line_size form = sheet_line_size (pick (in_cases form) 8 7)

abbrev pub storey_line_size : ℕ → ℕ
storey_line_size form = sheet_line_size (pick (in_cases form) 7 6)

abbrev pub building_line_size : ℕ
building_line_size = sheet_line_size 2

-- the lines of storeys and members in one case
abbrev pub case_size : ℕ → ℕ → ℕ → ℕ
case_size form storeys members = member_line_size form * members + storey_line_size form * storeys

-- a sheet's size, by the rows that it prints
abbrev pub sheet_size : ℕ → ℕ → ℕ → ℕ
sheet_size form storeys members = case_count form * case_size form storeys members + building_line_size
