-- The two round trips (document 02, N1), of the definitions that the calls of reading and writing promise.
use Rattle.std.specs.Prelude.{◌≤◌, ◌∷◌, ◌++◌, ◌≡◌}
use Rattle.records.specs.Notation.{ℕ, List, [], length, take, drop}
use Rattle.checks.specs.Rows.{Survey, records_fault}
use Rattle.members.specs.Finding.{Returned, found}
use Rattle.reading.specs.Survey.{accepted, survey}
use Rattle.writing.specs.File.{file_text}
use Rattle.writing.specs.Writing.{file_returned, file_after_call}

-- what the call gives where it writes a file of n bytes
abbrev pub written : ℕ → Returned
written n = found (n ∷ [])

-- "Reading that file back into rows that hold it gives the same header, storeys and members": of all records that pass the checks and every buffer that holds
-- the file, the call gives its length, and these bytes are read, into any rows that hold the records, as the same records
abbrev pub ReadBack : Type 0
ReadBack =
    (a : Survey) (before : List ℕ) (srows mrows : ℕ) → records_fault a ≡ 0 → length (file_text a) ≤ length before
    → length a.storeys ≤ srows → length a.members ≤ mrows
    → (file_returned a (length before) ≡ written (length (file_text a))) × (survey (take (length (file_text a)) (file_after_call a before)) srows mrows ≡ accepted a)

-- "For an accepted file, writing what was read gives the same bytes": whatever rows it was read into, in every buffer that holds it, the call gives the file's length and puts its bytes
abbrev pub WrittenBack : Type 0
WrittenBack =
    (s : List ℕ) (srows mrows : ℕ) (a : Survey) (before : List ℕ) → survey s srows mrows ≡ accepted a → length s ≤ length before
    → (file_returned a (length before) ≡ written (length s)) × (file_after_call a before ≡ s ++ drop (length s) before)
