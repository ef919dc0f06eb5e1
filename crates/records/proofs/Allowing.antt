-- The ranges of the fields of M and D lines, side by side, and how many fields a line has.
use Prim.Native.Nat.{ℕ, ◌+◌, ◌≤◌, ◌<◌}
use native.Mathlib.Omega.{arith}
use mathlib.Core.List.{[], ◌∷◌, ◌++◌}
use mathlib.Core.Path.{◌≡◌, sym, ◌∙◌}
use lib.ListN.{get_or, get_or-append}
use lib.Seq.{get_or-append-add}
use Rattle.records.specs.Records.{never, ranges, fields, member_ranges, case_ranges, annex_e_range}
use Rattle.records.specs.declared.Kind.{Kind}
use Rattle.records.specs.declared.Kind.TheVariants.{B, S, M, S4, M4, D}

-- the first 18 fields of an M line, and the 8 of a load case
pub member-field : (j : ℕ) → j < 18 → get_or (ranges M 0) j never ≡ get_or (ranges M4 0) j never
member-field j h = get_or-append member_ranges (case_ranges ++ (annex_e_range ∷ [])) never j h ∙ sym (get_or-append member_ranges (annex_e_range ∷ []) never j h)

pub case-field : (j : ℕ) → j < 8 → get_or (ranges M 0) (18 + j) never ≡ get_or case_ranges j never
case-field j h = get_or-append-add member_ranges (case_ranges ++ (annex_e_range ∷ [])) j never ∙ get_or-append case_ranges (annex_e_range ∷ []) never j h

-- no line has more fields than an M line
pub fields-most : (kind : Kind) → fields kind ≤ fields M
fields-most B = omega arith
fields-most S = omega arith
fields-most M = omega arith
fields-most S4 = omega arith
fields-most M4 = omega arith
fields-most D = omega arith

-- and each has three
pub three-fields : (kind : Kind) → 2 < fields kind
three-fields B = omega arith
three-fields S = omega arith
three-fields M = omega arith
three-fields S4 = omega arith
three-fields M4 = omega arith
three-fields D = omega arith
