-- What the calls for other languages give and leave.
use Rattle.std.specs.Prelude.{ℕ, List, [], ◌∷◌, leb, length, Bool}
use Rattle.records.specs.Notation.{pick}
use Rattle.members.specs.Finding.{Returned}
use Rattle.records.specs.declared.by_case.FourCases.{FourCases}
use Rattle.answers.specs.Packing.{packed}
use Rattle.reading.specs.Answer.{Told, filled, refusal}
use Rattle.columns.specs.Line.{at_front}

-- the form of the calls: a change of one raises it
abbrev pub version : ℕ
version = 8

-- how many values each call puts to the front of `out`; on a member and on a storey at most: those of four cases
abbrev pub reading_count : ℕ
reading_count = 9

abbrev pub member_count : ℕ
member_count = 40

abbrev pub storey_count : ℕ
storey_count = 45

abbrev pub building_count : ℕ
building_count = 4

abbrev pub report_count : ℕ
report_count = 1

abbrev pub file_count : ℕ
file_count = 1

-- the 0.40 condition by case
abbrev pub met_by : Bool → Bool → Bool → Bool → FourCases Bool
met_by a b c d = record { case1 = a; case2 = b; case3 = c; case4 = d }

-- given where `out` is too short for the values; no refusal is packed as this
abbrev pub short : ℕ
short = 255

-- by the room in `out` for so many values: what is given or left with it, and without
abbrev pub if_room : {A : Type 0} → ℕ → List ℕ → A → A → A
if_room count out with without = pick (leb count (length out)) with without

-- what a call gives
abbrev pub given : ℕ → Returned → List ℕ → ℕ
given count r out = if_room count out (packed r) short

-- what it leaves in `out`: "All lent memory is unchanged by a refusal; an accepted call changes only the rows or bytes it fills, from the front"
abbrev pub out_after_call : ℕ → Returned → List ℕ → List ℕ
out_after_call count r out = if_room count out (at_front r.values out) out

-- what reading returns: the header's seven numbers and the numbers of storey and member rows filled; or the refusal with its line
abbrev pub reading_returned : Told → Returned
reading_returned (filled h storeys members) =
    record {
      refusal = 0;
      line = 0;
      values = h.knowledge ∷ h.height ∷ h.storeys ∷ h.tilt1 ∷ h.tilt2 ∷ h.count ∷ h.form ∷ storeys ∷ members ∷ [];
    }
reading_returned (refusal number line) = record { refusal = number; line = line; values = [] }
