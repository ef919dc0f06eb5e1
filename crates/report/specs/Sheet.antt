-- The printed sheet and the report call (document 01, "The printed sheet", "Refusals as returned"; document 02, N3): any survey, and a buffer of any length. A load
-- case l is counted from 0.
use Rattle.records.specs.Records.{in_cases, case_count, shear_of, in_case}
use Rattle.std.specs.Prelude.{◌+◌, ◌∷◌, ◌++◌, Result, Ok, Err}
use Rattle.records.specs.Notation.{ℕ, zero, suc, Bool, List, [], leb, eqb, length, drop, pick, in_order}
use Rattle.checks.specs.Rows.{Storey, Member, Survey, storey_in, members_of, records_fault}
use Rattle.members.specs.{declared.finding.Finding.Finding, Class.code, Finding.finding, Finding.flag, Finding.Returned, Finding.found, Finding.refused}
use Rattle.totals.specs.declared.StoreyFinding.{StoreyFinding}
use Rattle.storeys.specs.{Storey.published_rules, Storey.meets_wall_share, Storey.finding_in, Building.tilted, Building.building_risky}
use Rattle.columns.specs.Line.{line}

-- "case number added as the first field" (document 02, N3); in the old form none
abbrev pub case_first : ℕ → ℕ → List ℕ → List ℕ
case_first form l vs = pick (in_cases form) ((l + 1) ∷ vs) vs

-- an `M` line (byte 77): "number, class (1 to 3 columns A to C, 4 and 5 walls A and B), m, its limit, rotation, its limit, over (0 or 1)"
unfoldable pub member_line : ℕ → ℕ → ℕ → Finding → List ℕ
member_line form l number f =
    line (77 ∷ [])
    (case_first form l (number ∷ code f.class ∷ f.m.0 ∷ f.m_limit.0 ∷ f.rotation.0 ∷ f.rotation_limit.0 ∷ flag f.over ∷ []))

-- an `S` line (83): "number, Σ, c, P, W, Risky"; "Risky as in that case"
unfoldable pub storey_line : ℕ → ℕ → ℕ → StoreyFinding → List ℕ
storey_line form l number f =
    line (83 ∷ []) (case_first form l (number ∷ f.axial_total ∷ f.members ∷ f.over_shear ∷ f.shear ∷ flag f.risky ∷ []))

-- the `B` line (66): "tilt above 25,000, Risky"
unfoldable pub building_line : Bool → Bool → List ℕ
building_line tilt risky = line (66 ∷ []) (flag tilt ∷ flag risky ∷ [])

-- "one line `E` with refusal and line" (69)
unfoldable pub refusal_line_of : ℕ → ℕ → List ℕ
refusal_line_of refusal place = line (69 ∷ []) (refusal ∷ place ∷ [])

-- the `M` lines of some members in case l, judged with k and the 0.40 condition of their storey
unfoldable pub member_lines : ℕ → ℕ → Bool → ℕ → List Member → List ℕ
member_lines form k met l [] = []
member_lines form k met l (m ∷ ms) = member_line form l m.number (finding k met (in_case l m)) ++ member_lines form k met l ms

-- "Per storey, its `M` lines", "Then `S`": in case l
unfoldable pub case_lines : ℕ → ℕ → Storey → List Member → ℕ → List ℕ
case_lines form k s ms l =
    member_lines form k (meets_wall_share l (shear_of l s) ms) l ms ++ storey_line form l s.number (finding_in published_rules k s ms l)

-- "For each storey, case 1 to 4 in turn, the sheet prints its members and S line" (document 02, N3): n cases from case l on
unfoldable pub cases_lines : ℕ → ℕ → Storey → List Member → ℕ → ℕ → List ℕ
cases_lines form k s ms l zero = []
cases_lines form k s ms l (suc n) = case_lines form k s ms l ++ cases_lines form k s ms (suc l) n

abbrev pub storey_lines : ℕ → ℕ → Storey → List Member → List ℕ
storey_lines form k s ms = cases_lines form k s ms 0 (case_count form)

-- the lines of n storeys from storey i on
unfoldable pub storeys_lines : ℕ → ℕ → List Storey → List Member → ℕ → ℕ → List ℕ
storeys_lines form k ss ms i zero = []
storeys_lines form k ss ms i (suc n) = storey_lines form k (storey_in ss i) (members_of ss ms i) ++ storeys_lines form k ss ms (suc i) n

-- the printed sheet: the storeys, "Last `B`"
unfoldable pub sheet : Survey → List ℕ
sheet a =
    storeys_lines a.header.form a.header.knowledge a.storeys a.members 0 (length a.storeys)
    ++ building_line (tilted a.header) (building_risky published_rules a)

-- 9, "report longer than its buffer"
abbrev pub length_fault : ℕ → ℕ → ℕ
length_fault size room = pick (leb size room) 0 9

-- the first refusal of the report call: those of the call on a building, "then 9"
unfoldable pub report_fault : Survey → ℕ → ℕ
report_fault a room = in_order (records_fault a ∷ length_fault (length (sheet a)) room ∷ [])

-- the sheet's length, or the number of the first refusal
unfoldable pub report_answer : Survey → ℕ → Result ℕ ℕ
report_answer a room = pick (eqb (report_fault a room) 0) (Ok (length (sheet a))) (Err (report_fault a room))

-- what each case of the answer says: "the report gives its length"
abbrev pub returned_report : Result ℕ ℕ → Returned
returned_report (Ok n) = found (n ∷ [])
returned_report (Err n) = refused n

-- what the paper returns
abbrev pub report_returned : Survey → ℕ → Returned
report_returned a room = returned_report (report_answer a room)

-- the buffer afterwards: the sheet "from the front" and the bytes after it unchanged; all of it unchanged by a refusal
unfoldable pub buffer_after : Survey → List ℕ → List ℕ
buffer_after a before = pick (eqb (report_fault a (length before)) 0) (sheet a ++ drop (length (sheet a)) before) before
