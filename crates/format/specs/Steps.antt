-- What the steps of reading a field come to, column by column; and the numbers that have a spelling.
use Rattle.std.specs.Prelude.{◌+◌, ◌-◌, ◌≤◌, ◌&&◌, ◌||◌}
use Rattle.records.specs.Notation.{ℕ, Bool, true, false, not, leb, ltb, eqb, pick}
use Rattle.records.specs.Records.{zero_force}

-- column b may stand after columns that make v: a blank while there is no digit, and not last; a digit, and a first 0 only last
abbrev pub continues : ℕ → ℕ → Bool → Bool
continues v b last =
    pick (eqb b 32) (not last && eqb v 0) ((leb 48 b && leb b 57) && (last || (ltb 0 v || ltb 48 b)))

-- the numbers that have a spelling in a field: of a force, with six digits at most after a minus; else with seven digits at most
abbrev pub Spellable : Bool → ℕ → Type 0
Spellable false v = v ≤ 9_999_999
Spellable true v = (zero_force - 999_999 ≤ v) × (v ≤ zero_force + 9_999_999)
