-- The two round trips.
use Prim.Native.Nat.{ℕ, ◌≤◌}
use mathlib.Core.List.{List, ◌++◌}
use mathlib.Core.Path.{◌≡◌, refl, ap, sym, ◌∙◌}
use lib.ListN.{length, take, drop}
use lib.Seq.{take-append_seam}
use Rattle.records.specs.Records.{Survey}
use Rattle.checks.specs.Rows.{records_fault}
use Rattle.reading.proofs.Passed.{accepted-pass}
use Rattle.writing.specs.File.{file_text}
use Rattle.writing.specs.Writing.{returned_file, file_returned, file_after_call}
use Rattle.writing.specs.RoundTrips.{written, ReadBack, WrittenBack}
use Rattle.writing.proofs.Called.{fault-none, answer-written, buffer-filled}
use Rattle.writing.proofs.Resent.{resent}
use Rattle.writing.proofs.Reread.{read_is}

-- ---- good records that the buffer holds
module _ (a : Survey) (before : List ℕ) (none : records_fault a ≡ 0) (fits : length (file_text a) ≤ length before) where
  put : file_after_call a before ≡ file_text a ++ drop (length (file_text a)) before
  put = buffer-filled a before (fault-none a (length before) none fits)

  filled : take (length (file_text a)) (file_after_call a before) ≡ file_text a
  filled = rw put (take-append_seam (file_text a) (drop (length (file_text a)) before))

  gives : file_returned a (length before) ≡ written (length (file_text a))
  gives = ap returned_file (sym (answer-written a (length before) (length (file_text a)) (fault-none a (length before) none fits) refl))

pub read_back : ReadBack
read_back a before srows mrows none fits hs hm =
    (gives a before none fits, rw (filled a before none fits) (read_is (file_text a) a.header a.storeys a.members refl none srows mrows hs hm))

pub written_back : WrittenBack
written_back s srows mrows a before e fits =
    let q = resent s srows mrows a e in
    let none = accepted-pass s srows mrows a e in
    let room : length (file_text a) ≤ length before = rw q at fits in
    (gives a before none room ∙ rw (← q), put a before none room ∙ rw (← q))
