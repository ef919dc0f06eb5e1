-- The storey and the case that the verdict names (document 02, N7), for any rules and any survey: which storey, and which of its cases.
use Rattle.std.specs.Prelude.{ℕ, ◌+◌, ◌<◌, Bool, true, false, ◌≡◌, length}
use Rattle.records.specs.Records.{in_cases, case_count, shear_of}
use Rattle.checks.specs.Rows.{Survey, storey_in, members_of}
use Rattle.storeys.specs.Storey.{Rules, case_risky}
use Rattle.storeys.specs.Building.{risky_at, some_risky, first_risky, first_risky_case}

-- storey i of a survey is Risky, counted from 0; and in case l
abbrev pub risky_in : Rules → Survey → ℕ → Bool
risky_in rules a = risky_at rules a.header.form a.header.knowledge a.storeys a.members

abbrev pub case_risky_at : Rules → Survey → ℕ → ℕ → Bool
case_risky_at rules a i l = case_risky rules a.header.knowledge l (shear_of l (storey_in a.storeys i)) (members_of a.storeys a.members i)

-- "the first Risky storey in survey order, with none Risky before it"
abbrev pub FirstNamed : Type 0
FirstNamed =
    (rules : Rules) (a : Survey) (i : ℕ) → first_risky rules a ≡ i + 1
    → (i < length a.storeys) × (risky_in rules a i ≡ true) × ((j : ℕ) → j < i → risky_in rules a j ≡ false)

-- "that storey's lowest numbered Risky case"
abbrev pub LowestNamed : Type 0
LowestNamed =
    (rules : Rules) (a : Survey) (i : ℕ) → first_risky rules a ≡ i + 1 → (l : ℕ) → first_risky_case rules a ≡ l + 1
    → (l < case_count a.header.form) × (case_risky_at rules a i l ≡ true) × ((j : ℕ) → j < l → case_risky_at rules a i j ≡ false)

-- "1 in the old form"
abbrev pub OldNamed : Type 0
OldNamed =
    (rules : Rules) (a : Survey) (i : ℕ) → in_cases a.header.form ≡ false → first_risky rules a ≡ i + 1 → first_risky_case rules a ≡ 1

-- "0 where no storey is named": both are 0 where no storey is Risky, and neither is where one is
abbrev pub NoneNamed : Type 0
NoneNamed =
    (rules : Rules) (a : Survey)
    → (some_risky rules a ≡ false → (first_risky rules a ≡ 0) × (first_risky_case rules a ≡ 0))
    × (some_risky rules a ≡ true → (first_risky rules a ≡ 0 → ⊥) × (first_risky_case rules a ≡ 0 → ⊥))
