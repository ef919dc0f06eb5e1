-- The lines of a survey file (document 01, "The survey record"): what a line is, what its fields hold, and its first refusal by itself.
-- A line is given by the file s and the place `at` where it begins.
use Rattle.std.specs.Prelude.{◌+◌, ◌*◌, ◌<◌, ◌&&◌, ◌||◌, ◌∷◌, ◌≡◌, Option, Some, None, unwrap_or}
use Rattle.records.specs.Notation.{ℕ, suc, Bool, true, false, List, [], leb, ltb, eqb, length, get_or, take, drop, pick, every_below, first}
use Rattle.records.specs.declared.{Header.Header, Storey.Storey, LoadCase.LoadCase, Member.Member, Kind.Kind, Kind.TheVariants.B, Kind.TheVariants.S, Kind.TheVariants.M, Kind.TheVariants.S4, Kind.TheVariants.M4, Kind.TheVariants.D}
use Rattle.records.specs.Records.{Allowed, allows, never, ranges, fields, last_field, in_cases, storey_kind, member_kind, header_by, storey_by, case_by, old_cases, member_by}
use Rattle.format.specs.Spelling.{field_of}
use Rattle.format.specs.declared.lines.FieldNumbers.{FieldNumbers}

-- "its tag in column 1, a byte B, S or M"; D of a load case (document 02, N3)
abbrev pub tag_byte : Kind → ℕ
tag_byte B = 66
tag_byte S = 83
tag_byte M = 77
tag_byte S4 = 83
tag_byte M4 = 77
tag_byte D = 68

-- how many bytes a line takes: its tag, its fields of 8 columns and LF
abbrev pub line_size : Kind → ℕ
line_size kind = 2 + 8 * fields kind

-- how many bytes stand before the first LF: all of them where there is none
unfoldable pub line_end : List ℕ → ℕ
line_end [] = 0
line_end (b ∷ s) = pick (eqb b 10) 0 (suc (line_end s))

-- the bytes start with a line of this kind: the tag, its fields of 8 columns, and the first LF
unfoldable pub shaped : Kind → List ℕ → Bool
shaped kind s = eqb (get_or s 0 0) (tag_byte kind) && (eqb (line_end s) (8 * fields kind + 1) && ltb (8 * fields kind + 1) (length s))

-- the bytes have the tag and the LF of a line where they must stand; another LF may stand between
abbrev pub framed : Kind → List ℕ → Bool
framed kind s =
    ltb (8 * fields kind + 1) (length s) && (eqb (get_or s 0 0) (tag_byte kind) && eqb (get_or s (8 * fields kind + 1) 0) 10)

-- N_D and N_K may have a minus: fields 18 and 19 of an M line; in the form of four cases field 18 of an M line and field 2 of a D line
abbrev pub is_force : Kind → ℕ → Bool
is_force B j = false
is_force S j = false
is_force M j = eqb j 17 || eqb j 18
is_force S4 j = false
is_force M4 j = eqb j 17
is_force D j = eqb j 1

-- field j of the line, counted from 0: the number that it holds, if it is written as it must be
unfoldable pub field_at : Kind → List ℕ → ℕ → ℕ → Option ℕ
field_at kind s at j = field_of (is_force kind j) (take 8 (drop (at + 1 + 8 * j) s))

-- that number; 0 where there is none: past a refused field it means nothing, and the refusal comes first
abbrev pub value_at : Kind → List ℕ → ℕ → ℕ → ℕ
value_at kind s at j = unwrap_or (field_at kind s at j) 0

abbrev pub is_written : Option ℕ → Bool
is_written (Some v) = true
is_written None = false

-- 2, a field not written as it must be; 3, a field outside its range
abbrev pub fault_in : Option ℕ → Allowed → ℕ
fault_in (Some v) a = pick (allows a v) 0 3
fault_in None a = 2

unfoldable pub field_fault : Kind → List ℕ → ℕ → ℕ → ℕ
field_fault kind s at j = fault_in (field_at kind s at j) (get_or (ranges kind (value_at kind s at 2)) j never)

-- "each field's 2 and 3 from the left"
abbrev pub fields_fault : Kind → List ℕ → ℕ → ℕ
fields_fault kind s at = first 0 (λ r. r) (field_fault kind s at) (fields kind)

-- the bytes hold the fields of a line of this kind
abbrev pub holds_fields : Kind → List ℕ → ℕ → Bool
holds_fields kind s at = leb (at + 1 + 8 * fields kind) (length s)

-- the number that field j of a line holds, if the bytes hold the line's fields and it is written as it must be
abbrev pub number_held : Kind → List ℕ → ℕ → ℕ → Option ℕ
number_held kind s at j = pick (holds_fields kind s at && ltb j (fields kind)) (field_at kind s at j) None

-- 2 where not all of a line's fields are written as they must be
abbrev pub written_fault : Kind → List ℕ → ℕ → ℕ
written_fault kind s at = pick (every_below (λ j. is_written (field_at kind s at j)) (fields kind)) 0 2

-- vs are the numbers that a line's fields hold
abbrev pub Holds : Kind → List ℕ → ℕ → List ℕ → Type 0
Holds kind s at vs = (j : ℕ) → j < fields kind → get_or vs j 0 ≡ value_at kind s at j

-- the numbers that a line's fields hold, and whether all are written as they must be; where the bytes end before the line's fields, none is written and each is 0
pub record FieldsOf (kind : Kind) (s : List ℕ) (at : ℕ) (r : FieldNumbers) : Type 0 where
  pub written : r.written ≡ (holds_fields kind s at && every_below (λ j. is_written (field_at kind s at j)) (fields kind))
  pub values : (j : ℕ) → j < fields kind → get_or r.values j 0 ≡ pick (holds_fields kind s at) (value_at kind s at j) 0

-- the records that lines hold, in a form
unfoldable pub header_at : ℕ → List ℕ → ℕ → Header
header_at form s at = header_by form (value_at B s at)

unfoldable pub storey_at : ℕ → List ℕ → ℕ → Storey
storey_at form s at = storey_by form (value_at (storey_kind form) s at)

-- where D line c, counted from 0, of the M line at `at` begins
abbrev pub case_start : ℕ → ℕ → ℕ
case_start at c = at + line_size M4 + line_size D * c

-- how many D lines follow an M line of a form
abbrev pub case_lines : ℕ → ℕ
case_lines form = pick (in_cases form) 4 0

-- how many bytes an M line and its D lines take
abbrev pub member_size : ℕ → ℕ
member_size form = line_size (member_kind form) + line_size D * case_lines form

unfoldable pub case_at : List ℕ → ℕ → LoadCase
case_at s at = case_by (value_at D s at) 1

-- the cases of the M line at `at`: its own fields 19 to 26, or its D lines
abbrev pub cases_at : ℕ → List ℕ → ℕ → List LoadCase
cases_at form s at =
    pick (in_cases form) (case_at s (case_start at 0) ∷ case_at s (case_start at 1) ∷ case_at s (case_start at 2) ∷ case_at s (case_start at 3) ∷ [])
    (old_cases (value_at M s at))

-- its last field tells whether it is detailed to annex E (document 02, N6)
unfoldable pub member_at : ℕ → List ℕ → ℕ → Member
member_at form s at = member_by (value_at (member_kind form) s at) (value_at (member_kind form) s at (last_field (member_kind form))) (cases_at form s at)
