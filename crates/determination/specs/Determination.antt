-- What `determine` prints (document 01, "The printed sheet"): "The program `determine` reads up to 65,536 bytes of standard input, lends rows for 320 members and
-- 10 storeys, prints the sheet, or one line `E` with refusal and line; a longer input prints `E` with 8 and 0".
use Rattle.records.specs.Notation.{ℕ, List, leb, eqb, length, pick}
use Rattle.reading.specs.Survey.{Outcome, accepted, refused, survey}
use Rattle.report.specs.Printing.{sheet_size}
use Rattle.report.specs.Sheet.{sheet, report_fault, refusal_line_of}

abbrev pub input_most : ℕ
input_most = 65_536

abbrev pub storey_rows : ℕ
storey_rows = 10

abbrev pub member_rows : ℕ
member_rows = 320

-- how many bytes the longest sheet of these rows has: that of four load cases
abbrev pub sheet_most : ℕ
sheet_most = sheet_size 2 storey_rows member_rows

-- "the sheet, or one line `E` with refusal and line": what a read file comes to, for a buffer of so many bytes. The program lends as many as the longest sheet has (`sheet_most`), so that 9 does not occur there (`never-nine` of proofs/Room)
unfoldable pub text : Outcome → ℕ → List ℕ
text (accepted a) room = pick (eqb (report_fault a room) 0) (sheet a) (refusal_line_of (report_fault a room) 0)
text (refused n line) room = refusal_line_of n line

-- the same of an input of any length: "a longer input prints `E` with 8 and 0"
unfoldable pub printed : List ℕ → ℕ → List ℕ
printed input room = pick (leb (length input) input_most) (text (survey input storey_rows member_rows) room) (refusal_line_of 8 0)
