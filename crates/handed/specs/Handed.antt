-- Records handed in as numbers, for other languages.
use Rattle.std.specs.Prelude.{ℕ, List, [], ◌∷◌, get_or}
use Rattle.records.specs.declared.{Header.Header, Storey.Storey, Member.Member}
use Rattle.records.specs.Records.{header_by, storey_by, case_by, member_by}

-- "No field may be missing": where a record is handed in as numbers, one that is not given stands as a number outside every range
abbrev pub missing : ℕ
missing = 18_446_744_073_709_551_615

-- number j, counted from 0, of a record handed in
abbrev pub handed : List ℕ → ℕ → ℕ
handed values j = get_or values j missing

-- a header's are those of its line and its form; a storey's its number, its four shears and its count; a member's the first 18 fields
-- of its line, whether it is detailed to annex E, and eight for each of its four cases
abbrev pub header_handed : List ℕ → Header
header_handed values = header_by (handed values 6) (handed values)

abbrev pub storey_handed : List ℕ → Storey
storey_handed values = storey_by 2 (handed values)

abbrev pub member_handed : List ℕ → Member
member_handed values =
    member_by (handed values) (handed values 18)
    (case_by (handed values) 19 ∷ case_by (handed values) 27 ∷ case_by (handed values) 35 ∷ case_by (handed values) 43 ∷ [])
