-- The storey and the case that an answer names, by their numbers.
use Rattle.std.specs.Prelude.{Option, Some, None}
use Rattle.records.specs.Notation.{ℕ, zero, suc}
use Rattle.storeys.specs.declared.RiskyStorey.{RiskyStorey}

-- a case by its number, counted from 1; 0 is none
abbrev pub case_numbered : ℕ → Option ℕ
case_numbered zero = None
case_numbered (suc n) = Some (suc n)

-- the place of the storey named, and its case; 0 where none is named
abbrev pub place_of : Option RiskyStorey → ℕ
place_of None = 0
place_of (Some s) = s.place

abbrev pub case_number_of : Option RiskyStorey → ℕ
case_number_of None = 0
case_number_of (Some s) = s.case
