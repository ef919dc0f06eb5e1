-- The units of document 01, "Member": "The grid belongs to the unit". Quotients are exact and rounded once.
use Rattle.std.specs.Prelude.{◌+◌, ◌-◌, ◌*◌, ◌/◌}
use Rattle.records.specs.Notation.{ℕ, min}
pub use Rattle.members.specs.declared.units.{Ratio.Ratio, HoopRatio.HoopRatio, Microradians.Microradians}

-- a / b rounded up: the least number whose b-fold is not below a
abbrev pub ceiling : ℕ → ℕ → ℕ
ceiling a b = (a + (b - 1)) / b

-- "The ratios n, n_D, m and v now count hundred-thousandths, capped at 9,999,999" (document 02, N2)
abbrev pub ratio_scale : ℕ
ratio_scale = 100_000

abbrev pub ratio_cap : ℕ
ratio_cap = 9_999_999

-- "ρ millionths", "capped at 999,999"
abbrev pub hoop_scale : ℕ
hoop_scale = 1_000_000

abbrev pub hoop_cap : ℕ
hoop_cap = 999_999

-- a / b as a ratio, rounded up; as a hoop ratio, rounded down
abbrev pub ratio_up : ℕ → ℕ → Ratio
ratio_up a b = record { 0 = min ratio_cap (ceiling (a * ratio_scale) b) }

abbrev pub hoop_down : ℕ → ℕ → HoopRatio
hoop_down a b = record { 0 = min hoop_cap (a * hoop_scale / b) }

-- a limit of a / b steps of its grid, rounded down
abbrev pub ratio_steps : ℕ → ℕ → Ratio
ratio_steps a b = record { 0 = a / b }

abbrev pub micro_steps : ℕ → ℕ → Microradians
micro_steps a b = record { 0 = a / b }
