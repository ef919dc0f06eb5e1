-- The writing call (document 02, N1): any survey, and a buffer of any length.
use Rattle.std.specs.Prelude.{◌∷◌, ◌++◌, Result, Ok, Err}
use Rattle.records.specs.Notation.{ℕ, List, [], leb, eqb, length, drop, pick, in_order}
use Rattle.checks.specs.Rows.{Survey, records_fault}
use Rattle.members.specs.Finding.{Returned, found, refused}
use Rattle.writing.specs.File.{file_text}

-- "11, the file is longer than the lent buffer"
abbrev pub file_length_fault : ℕ → ℕ → ℕ
file_length_fault size room = pick (leb size room) 0 11

-- the first refusal: "the checks that judging makes, with those same numbers first", and 11 "tested last"
unfoldable pub file_fault : Survey → ℕ → ℕ
file_fault a room = in_order (records_fault a ∷ file_length_fault (length (file_text a)) room ∷ [])

-- the file's length, or the refusal by its number
unfoldable pub file_answer : Survey → ℕ → Result ℕ ℕ
file_answer a room = pick (eqb (file_fault a room) 0) (Ok (length (file_text a))) (Err (file_fault a room))

-- what each case of the answer says: "give its length"
abbrev pub returned_file : Result ℕ ℕ → Returned
returned_file (Ok n) = found (n ∷ [])
returned_file (Err n) = refused n

-- what the paper returns
abbrev pub file_returned : Survey → ℕ → Returned
file_returned a room = returned_file (file_answer a room)

-- the buffer afterwards: the file from the front and the bytes after it unchanged; all of it unchanged by a refusal
unfoldable pub file_after_call : Survey → List ℕ → List ℕ
file_after_call a before = pick (eqb (file_fault a (length before)) 0) (file_text a ++ drop (length (file_text a)) before) before
