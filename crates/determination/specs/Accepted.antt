-- An accepted file is judged and printed (document 02, N10: no refusal of a judging call needs judging).
use Rattle.std.specs.Prelude.{ℕ, ◌≤◌, List, ◌≡◌, length}
use Rattle.records.specs.Records.{Survey}
use Rattle.reading.specs.Survey.{accepted, survey}
use Rattle.storeys.specs.Storey.{Rules}
use Rattle.storeys.specs.Building.{building_returned}
use Rattle.report.specs.Sheet.{sheet}
use Rattle.determination.specs.Determination.{input_most, storey_rows, member_rows, sheet_most, printed}

-- the call on a building refuses the records of no accepted file, whatever rows it was read into, by any rules
abbrev pub AcceptedJudged : Type 0
AcceptedJudged =
    (s : List ℕ) (srows mrows : ℕ) (a : Survey) → survey s srows mrows ≡ accepted a
    → (rules : Rules) → (building_returned rules a).refusal ≡ 0

-- `determine` prints the sheet of every accepted file, into every buffer that holds the longest sheet
abbrev pub AcceptedPrinted : Type 0
AcceptedPrinted =
    (input : List ℕ) (a : Survey) (room : ℕ) → length input ≤ input_most → survey input storey_rows member_rows ≡ accepted a
    → sheet_most ≤ room → printed input room ≡ sheet a
