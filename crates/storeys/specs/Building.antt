-- The judgment of a building (document 01, "Storey and building", "Refusals as returned"): any survey.
use Rattle.std.specs.Prelude.{◌+◌, ◌-◌, ◌||◌, ◌∷◌}
use Rattle.records.specs.Notation.{ℕ, max, Bool, List, [], ltb, eqb, length, pick, any_below, first}
use Rattle.checks.specs.Rows.{Header, Storey, Member, Survey, records_fault, storey_in, members_of}
use Rattle.members.specs.Finding.{flag, Returned, found, refused}
use Rattle.storeys.specs.Storey.{Rules, storey_risky, lowest_risky_case}
use Rattle.std.specs.Prelude.{Result, Ok, Err}
use Rattle.storeys.specs.Place.{place_of, case_number_of}
use Rattle.storeys.specs.declared.BuildingFinding.{BuildingFinding}

-- storey i is Risky
unfoldable pub risky_at : Rules → ℕ → ℕ → List Storey → List Member → ℕ → Bool
risky_at rules form k ss ms i = storey_risky rules form k (storey_in ss i) (members_of ss ms i)

-- "the larger tilt exceeds 25,000"
abbrev pub tilt_allowed : ℕ
tilt_allowed = 25_000

unfoldable pub tilted : Header → Bool
tilted h = ltb tilt_allowed (max h.tilt1 h.tilt2)

-- some storey is Risky
unfoldable pub some_risky : Rules → Survey → Bool
some_risky rules a = any_below (risky_at rules a.header.form a.header.knowledge a.storeys a.members) (length a.storeys)

-- "A building is Risky when a storey is, or the larger tilt exceeds 25,000"
unfoldable pub building_risky : Rules → Survey → Bool
building_risky rules a = some_risky rules a || tilted a.header

-- "Name the first Risky storey in survey order, with none Risky before it" (document 02, N7): its place, counted from 1; 0 where no storey is Risky
unfoldable pub first_risky : Rules → Survey → ℕ
first_risky rules a = first 0 (λ n. n) (λ i. pick (risky_at rules a.header.form a.header.knowledge a.storeys a.members i) (i + 1) 0) (length a.storeys)

-- the lowest numbered Risky case of storey i
unfoldable pub lowest_case_at : Rules → ℕ → ℕ → List Storey → List Member → ℕ → ℕ
lowest_case_at rules form k ss ms i = lowest_risky_case rules form k (storey_in ss i) (members_of ss ms i)

-- "Beside it stands that storey's lowest numbered Risky case, 1 in the old form, 0 where no storey is named"
unfoldable pub first_risky_case : Rules → Survey → ℕ
first_risky_case rules a =
    pick (eqb (first_risky rules a) 0) 0 (lowest_case_at rules a.header.form a.header.knowledge a.storeys a.members (first_risky rules a - 1))

-- what the paper returns of a building: the refusal of its records; or tilted, Risky, the place and the case
unfoldable pub building_returned : Rules → Survey → Returned
building_returned rules a =
    pick (eqb (records_fault a) 0)
    (found (flag (tilted a.header) ∷ flag (building_risky rules a) ∷ first_risky rules a ∷ first_risky_case rules a ∷ []))
    (refused (records_fault a))

-- what each case of the answer says: the values of a printed building, the place and the case
abbrev pub returned_building : Result BuildingFinding ℕ → Returned
returned_building (Ok f) = found (flag f.tilted ∷ flag f.risky ∷ place_of f.first ∷ case_number_of f.first ∷ [])
returned_building (Err n) = refused n
