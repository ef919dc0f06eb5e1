-- What reads and writes come to, by what they return and by the bytes that they move.
use Rattle.std.specs.Prelude.{◌≡◌, ℕ, zero, suc, ◌<◌, ◌≤◌, List, length, take, Option, Some, None, Result, Ok, Err, IsOk, IsErrAnd}
use Rattle.std.specs.IoError.{error_kind}
use Rattle.std.specs.Io.KnownBytes.{Appends, Consumes, IsAtEnd}
use Rattle.std.specs.declared.io.Error.{Error}
use Rattle.std.specs.declared.io.ErrorKind.TheVariants.{WriteZero}

-- what one read or write returns means: so many bytes; no bytes, so there is no more to move; an error, a failure
abbrev pub moved_of : Result ℕ Error → Result (Option ℕ) Error
moved_of (Ok zero) = Ok None
moved_of (Ok (suc n)) = Ok (Some (suc n))
moved_of (Err e) = Err e

-- what a call told that moved bytes
abbrev pub Moving : Result (Option ℕ) Error → Type 0
Moving (Ok (Some n)) = Unit
Moving (Ok None) = ⊥
Moving (Err e) = ⊥

-- nothing is left to move: all of a buffer of so many bytes is moved, or the last call moved nothing
abbrev pub Over : Result (Option ℕ) Error → ℕ → ℕ → Type 0
Over last done room = (done ≤ room) × (Moving last → done ≡ room)

-- the input, by what the last read told: the bytes read, or after a failure none of them, and that failure
abbrev pub InputOf : Result (Option ℕ) Error → Result ℕ Error → Type 0
InputOf (Ok n) r = IsOk r
InputOf (Err e) r = r ≡ Err e

-- the output, by what the last write told: written, unless that write moved nothing; then its failure, or that it took no byte
abbrev pub OutputOf : {A : Type 0} → Result (Option ℕ) Error → Result A Error → Type 0
OutputOf (Ok (Some n)) r = IsOk r
OutputOf (Ok None) r = IsErrAnd r (λ e. error_kind e ≡ WriteZero)
OutputOf (Err e) r = r ≡ Err e

-- reading, by the bytes that the reader had and has, and the buffer afterwards. So many bytes are read into the front of it: all of them where it is not full.
-- A failure leaves none of them as input, and bytes at the front that were read before it
abbrev pub ReadsAll : Option (List ℕ) → Option (List ℕ) → Result ℕ Error → List ℕ → Type 0
ReadsAll old new (Ok done) buffer = (done ≤ length buffer) × Consumes old new (take done buffer) × (done < length buffer → IsAtEnd new)
ReadsAll old new (Err e) buffer = (done : ℕ) × (done ≤ length buffer) × Consumes old new (take done buffer)

-- writing, by the bytes that the writer had and has. All are written, or those before a failure
abbrev pub WritesAll : {A : Type 0} → Option (List ℕ) → Option (List ℕ) → Result A Error → List ℕ → Type 0
WritesAll old new (Ok u) bytes = Appends old new bytes
WritesAll old new (Err e) bytes = (done : ℕ) × (done ≤ length bytes) × Appends old new (take done bytes)
