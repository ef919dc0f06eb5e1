-- A line as it is written (document 01, "The survey record"): the columns of a stored number, and the line of some numbers.
use Rattle.std.specs.Prelude.{◌+◌, ◌-◌, ◌∷◌, ◌++◌}
use Rattle.records.specs.Notation.{ℕ, zero, suc, Bool, true, false, List, [], leb, pick}
use Rattle.records.specs.declared.{Member.Member, Kind.Kind, Kind.TheVariants.D}
use Rattle.records.specs.Records.{zero_force, in_cases, member_kind, member_values, case_values, member_case_values, case_of, in_case}
use Rattle.format.specs.Spelling.{spelled}
use Rattle.format.specs.Lines.{tag_byte, is_force, case_lines}

-- the eight columns of a stored number. N_D and N_K are stored counted from zero_force
unfoldable pub field_text : Bool → ℕ → List ℕ
field_text false v = spelled 8 32 v
field_text true v = pick (leb zero_force v) (spelled 8 32 (v - zero_force)) (spelled 8 45 (zero_force - v))

-- the fields of a line, from field j on
unfoldable pub fields_text : Kind → ℕ → List ℕ → List ℕ
fields_text kind j [] = []
fields_text kind j (v ∷ vs) = field_text (is_force kind j) v ++ fields_text kind (suc j) vs

-- a line: its tag, its fields, LF
unfoldable pub line_text : Kind → List ℕ → List ℕ
line_text kind vs = tag_byte kind ∷ (fields_text kind 0 vs ++ (10 ∷ []))

-- the numbers of a member's M line in a form, and of its D line c, counted from 0
abbrev pub member_line : ℕ → Member → List ℕ
member_line form m = pick (in_cases form) (member_values m) (member_case_values (in_case 0 m))

abbrev pub case_line : Member → ℕ → List ℕ
case_line m c = (c + 1) ∷ case_values (case_of c m)

-- n D lines of a member, from case c on
unfoldable pub cases_text : Member → ℕ → ℕ → List ℕ
cases_text m c zero = []
cases_text m c (suc n) = line_text D (case_line m c) ++ cases_text m (suc c) n

-- the lines of a member: its M line, and its D lines where the form has them
unfoldable pub member_text : ℕ → Member → List ℕ
member_text form m = line_text (member_kind form) (member_line form m) ++ cases_text m 0 (case_lines form)
