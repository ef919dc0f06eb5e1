-- A survey file (document 01, "The survey record", "Refusals as returned"; document 02, N3): its form, the place and the number of each line, the first refusal
-- of each, the first refusal of the file, and what an accepted file holds.
use Rattle.std.specs.Prelude.{◌+◌, ◌*◌, ◌∷◌, ◌++◌}
use Rattle.records.specs.Notation.{ℕ, zero, suc, List, [], ltb, eqb, length, drop, pick, in_order, first, listed}
use Rattle.records.specs.declared.{Storey.Storey, Member.Member, Kind.Kind, Kind.TheVariants.B, Kind.TheVariants.S4, Kind.TheVariants.D}
use Rattle.records.specs.Records.{Survey, survey_of, fields, storey_kind, member_kind, header_fault, sides_fault, repeated}
use Rattle.format.specs.Lines.{line_size, line_end, shaped, value_at, fields_fault, header_at, storey_at, case_start, case_lines, member_size, member_at}

-- "the length of the first S line tells the form of the whole file": that of an S line with four shears, or else the old form
unfoldable pub form_of : List ℕ → ℕ
form_of s = pick (eqb (line_end (drop (line_size B) s)) (8 * fields S4 + 1)) 2 1

-- "one B, then each S followed by its M lines": where the line begins before which stand the B line, i S lines and m M lines with their D lines
abbrev pub line_start : ℕ → ℕ → ℕ → ℕ
line_start form i m = line_size B + line_size (storey_kind form) * i + member_size form * m

-- the number of that line, from 1
abbrev pub line_number : ℕ → ℕ → ℕ → ℕ
line_number form i m = 2 + i + (1 + case_lines form) * m

-- how many M lines stand before S line i, counted from 0
unfoldable pub members_before : ℕ → List ℕ → ℕ → ℕ
members_before form s zero = 0
members_before form s (suc i) = members_before form s i + (storey_at form s (line_start form i (members_before form s i))).count

-- the storey of S line i, and the member of its M line j
abbrev pub storey : ℕ → List ℕ → ℕ → Storey
storey form s i = storey_at form s (line_start form i (members_before form s i))

abbrev pub member_start : ℕ → List ℕ → ℕ → ℕ → ℕ
member_start form s i j = line_start form (i + 1) (members_before form s i + j)

abbrev pub member : ℕ → List ℕ → ℕ → ℕ → Member
member form s i j = member_at form s (member_start form s i j)

-- 1, a line not of the tag and length expected, or absent
abbrev pub shape : Kind → List ℕ → ℕ → ℕ
shape kind s at = pick (shaped kind (drop at s)) 0 1

-- 8, more records than the lent rows hold: record k, counted from 0, of so many rows
abbrev pub unheld : ℕ → ℕ → ℕ
unheld k rows = pick (ltb k rows) 0 8

-- the first refusal of a line: "1, then 8, then each field's 2 and 3 from the left, then 4, 5, 7"
unfoldable pub header_line_fault : List ℕ → ℕ
header_line_fault s = in_order (shape B s 0 ∷ fields_fault B s 0 ∷ header_fault (header_at (form_of s) s 0) ∷ [])

unfoldable pub storey_line_fault : ℕ → List ℕ → ℕ → ℕ → ℕ
storey_line_fault form s rows i =
    let at = line_start form i (members_before form s i) in
    in_order
    (shape (storey_kind form) s at ∷ unheld i rows ∷ fields_fault (storey_kind form) s at ∷ repeated (λ e. (storey form s e).number) i ∷ [])

unfoldable pub member_line_fault : ℕ → List ℕ → ℕ → ℕ → ℕ → ℕ
member_line_fault form s rows i j =
    let at = member_start form s i j in
    in_order
    (shape (member_kind form) s at ∷ unheld (members_before form s i + j) rows ∷ fields_fault (member_kind form) s at
    ∷ sides_fault (member form s i j).short (member form s i j).long ∷ repeated (λ e. (member form s i e).number) j ∷ [])

-- "12, D lines not numbered 1, 2, 3, 4, tested right after that line's fields" (document 02, N3): D line c of an M line, counted from 0
abbrev pub case_number_fault : ℕ → ℕ → ℕ
case_number_fault number c = pick (eqb number (c + 1)) 0 12

unfoldable pub case_line_fault : List ℕ → ℕ → ℕ → ℕ
case_line_fault s at c = in_order (shape D s at ∷ fields_fault D s at ∷ case_number_fault (value_at D s at 0) c ∷ [])

-- a refusal with its line; number 0 is none
pub record Fault : Type 0 where
  pub number : ℕ
  pub line : ℕ

abbrev pub no_fault : Fault
no_fault = record { number = 0; line = 0 }

abbrev pub at-line : ℕ → ℕ → Fault
at-line line r = pick (eqb r 0) no_fault (record { number = r; line = line })

abbrev pub or_else : Fault → Fault → Fault
or_else f g = pick (eqb f.number 0) g f

abbrev pub first_fault : (ℕ → Fault) → ℕ → Fault
first_fault = first no_fault (λ f. f.number)

-- "The earliest line wins": the first refusal of the D lines of the M line at `at`, whose number is `line`; of an M line and its D lines; of storey i's M lines; of
-- its S line and these; and of the file
unfoldable pub cases_fault : ℕ → List ℕ → ℕ → ℕ → Fault
cases_fault form s at line = first_fault (λ c. at-line (line + 1 + c) (case_line_fault s (case_start at c) c)) (case_lines form)

unfoldable pub member_lines_fault : ℕ → List ℕ → ℕ → ℕ → ℕ → Fault
member_lines_fault form s rows i j =
    let line = line_number form (i + 1) (members_before form s i + j) in
    or_else (at-line line (member_line_fault form s rows i j)) (cases_fault form s (member_start form s i j) line)

unfoldable pub members_fault : ℕ → List ℕ → ℕ → ℕ → Fault
members_fault form s rows i = first_fault (member_lines_fault form s rows i) (storey form s i).count

unfoldable pub storeys_fault : ℕ → List ℕ → ℕ → ℕ → ℕ → Fault
storeys_fault form s srows mrows i =
    or_else (at-line (line_number form i (members_before form s i)) (storey_line_fault form s srows i)) (members_fault form s mrows i)

-- 6, bytes after the last line, at the line they begin
abbrev pub trailing : ℕ → List ℕ → ℕ → Fault
trailing form s n =
    pick (ltb (line_start form n (members_before form s n)) (length s)) (record { number = 6; line = line_number form n (members_before form s n) }) no_fault

-- of a file of a form with n S lines, after its B line
abbrev pub lines_fault : ℕ → List ℕ → ℕ → ℕ → ℕ → Fault
lines_fault form s srows mrows n = or_else (first_fault (storeys_fault form s srows mrows) n) (trailing form s n)

unfoldable pub survey_fault : List ℕ → ℕ → ℕ → Fault
survey_fault s srows mrows = or_else (at-line 1 (header_line_fault s)) (lines_fault (form_of s) s srows mrows (header_at (form_of s) s 0).count)

-- the members of the first n S lines
unfoldable pub first_members : ℕ → List ℕ → ℕ → List Member
first_members form s zero = []
first_members form s (suc i) = first_members form s i ++ listed (member form s i) (storey form s i).count

-- what a file of a form with n S lines holds
abbrev pub survey_in : ℕ → List ℕ → ℕ → Survey
survey_in form s n = survey_of (header_at form s 0) (listed (storey form s) n) (first_members form s n)

-- what reading a file comes to, with so many storey and member rows lent
pub data Outcome : Type 0 where
  accepted : Survey → Outcome
  refused : ℕ → ℕ → Outcome

unfoldable pub survey : List ℕ → ℕ → ℕ → Outcome
survey s srows mrows =
    pick (eqb (survey_fault s srows mrows).number 0)
    (accepted (survey_in (form_of s) s (header_at (form_of s) s 0).count))
    (refused (survey_fault s srows mrows).number (survey_fault s srows mrows).line)
