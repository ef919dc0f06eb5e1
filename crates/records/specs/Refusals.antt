-- The refusals by their numbers (docs/REFUSALS.md), and outcomes in these numbers.
use Rattle.std.specs.Prelude.{ℕ, Result, Ok, Err}
pub use Rattle.records.specs.declared.refusal.Refusal.{Refusal, TheVariants.Structure, TheVariants.Spelling, TheVariants.OutOfRange, TheVariants.SidesExchanged, TheVariants.NumberRepeated, TheVariants.TrailingBytes, TheVariants.NotLowRise, TheVariants.TooLarge, TheVariants.SheetTooLong, TheVariants.FileTooLong, TheVariants.CaseMisnumbered, TheVariants.OutsideMap}

abbrev pub refusal_number : Refusal → ℕ
refusal_number Structure = 1
refusal_number Spelling = 2
refusal_number OutOfRange = 3
refusal_number SidesExchanged = 4
refusal_number NumberRepeated = 5
refusal_number TrailingBytes = 6
refusal_number NotLowRise = 7
refusal_number TooLarge = 8
refusal_number SheetTooLong = 9
refusal_number FileTooLong = 11
refusal_number CaseMisnumbered = 12
refusal_number OutsideMap = 14

-- the number of the refusal of an outcome; 0 where nothing is refused
abbrev pub fault_of : {A : Type 0} → Result A Refusal → ℕ
fault_of (Ok a) = 0
fault_of (Err r) = refusal_number r

-- an outcome with the number of its refusal
abbrev pub numbered : {A : Type 0} → Result A Refusal → Result A ℕ
numbered (Ok a) = Ok a
numbered (Err r) = Err (refusal_number r)
