-- The answer of the reading call, case by case in the paper's numbers (document 01, "Refusals as returned").
use Rattle.std.specs.Prelude.{◌++◌, Result, Ok, Err}
use Rattle.records.specs.Notation.{ℕ, List, length, drop}
use Rattle.records.specs.declared.{Header.Header, Storey.Storey, Member.Member}
use Rattle.records.specs.declared.refusal.Refusal.{Refusal}
use Rattle.records.specs.Refusals.{refusal_number}
use Rattle.reading.specs.Survey.{Fault, no_fault, Outcome, accepted, refused}
use Rattle.reading.specs.declared.survey.Filled.{Filled}
use Rattle.reading.specs.declared.survey.LineRefusal.{LineRefusal}

-- what an answer tells: the header, with the numbers of rows filled; or a refusal, by its number, with its line
pub data Told : Type 0 where
  filled : Header → ℕ → ℕ → Told
  refusal : ℕ → ℕ → Told

abbrev pub tells : Result Filled LineRefusal → Told
tells (Ok a) = filled a.header a.storeys a.members
tells (Err r) = refusal (refusal_number r.refusal) r.line

-- what is told of an outcome
abbrev pub told : Outcome → Told
told (accepted a) = filled a.header (length a.storeys) (length a.members)
told (refused n line) = refusal n line

-- the rows afterwards: filled from the front, the rest as they were; on a refusal all as they were
abbrev pub storeys_after_call : Outcome → List Storey → List Storey
storeys_after_call (accepted a) rows = a.storeys ++ drop (length a.storeys) rows
storeys_after_call (refused n line) rows = rows

abbrev pub members_after_call : Outcome → List Member → List Member
members_after_call (accepted a) rows = a.members ++ drop (length a.members) rows
members_after_call (refused n line) rows = rows

-- the form of an accepted file; the old one of a refused file
abbrev pub form_told : Told → ℕ
form_told (filled h storeys members) = h.form
form_told (refusal n line) = 1

-- how many storey rows an answer says were filled
abbrev pub storeys_told : Told → ℕ
storeys_told (filled h storeys members) = storeys
storeys_told (refusal n line) = 0

-- the refusal of an answer with its line
abbrev pub found : {A : Type 0} → Result A LineRefusal → Fault
found (Ok a) = no_fault
found (Err r) = record { number = refusal_number r.refusal; line = r.line }

-- an outcome of a line's checks, its refusal with the line
abbrev pub lined : {A : Type 0} → ℕ → Result A Refusal → Result A LineRefusal
lined line (Ok a) = Ok a
lined line (Err r) = Err (record { refusal = r; line = line })
