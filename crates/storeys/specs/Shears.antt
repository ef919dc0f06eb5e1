-- P of a storey is bounded (document 02, N10: "a storey's 200 shears of at most 9,999,999 each never reach its threshold").
use Rattle.std.specs.Prelude.{ℕ, ◌≤◌, ◌<◌, Bool, List, ◌≡◌, length}
use Rattle.checks.specs.Rows.{member_rows_fault}
use Rattle.records.specs.Records.{case_count}
use Rattle.records.specs.declared.Storey.{Storey}
use Rattle.records.specs.declared.Member.{Member}
use Rattle.storeys.specs.Storey.{Rules, over_shear_of, storey_call_fault}

-- "200 shears of at most 9,999,999 each", and the threshold that they never reach
abbrev pub most_shear : ℕ
most_shear = 1_999_999_800

abbrev pub threshold : ℕ
threshold = 9_999_999_999

-- of 200 members at most, each good by itself, in every case of their form, by any rules: the P that the sheet prints is no larger
abbrev pub ShearBounded : Type 0
ShearBounded =
    (rules : Rules) (form k l : ℕ) (met : Bool) (ms : List Member) → l < case_count form → member_rows_fault form ms ≡ 0 → length ms ≤ 200 → over_shear_of rules k met l ms ≤ most_shear

-- so of every storey of which the call refuses nothing
abbrev pub NeverReached : Type 0
NeverReached =
    (rules : Rules) (form k l : ℕ) (met : Bool) (s : Storey) (ms : List Member) → l < case_count form → storey_call_fault k form s ms ≡ 0 → over_shear_of rules k met l ms < threshold
