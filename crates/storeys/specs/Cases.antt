-- The load cases of a storey together (document 02, N3: "A storey is Risky when it is in some case. One Risky by damage is so in every case").
use Rattle.std.specs.Prelude.{◌≡◌}
use Rattle.records.specs.Notation.{ℕ, true, false, List}
use Rattle.records.specs.{declared.Storey.Storey, declared.Member.Member, Records.in_cases, Records.shear_of}
use Rattle.storeys.specs.Storey.{Rules, risky_by_damage, case_risky, storey_risky}

-- in the old form a storey is Risky exactly when it is in case 1, by any rules
abbrev pub RiskyInFirst : Type 0
RiskyInFirst =
    (rules : Rules) (form k : ℕ) (s : Storey) (ms : List Member) → in_cases form ≡ false → storey_risky rules form k s ms ≡ case_risky rules k 0 (shear_of 0 s) ms

-- a storey Risky by damage is Risky in every case l, whatever its storey shear w
abbrev pub DamagedInEvery : Type 0
DamagedInEvery = (rules : Rules) (k l w : ℕ) (ms : List Member) → risky_by_damage ms ≡ true → case_risky rules k l w ms ≡ true
