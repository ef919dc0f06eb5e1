-- What the generator prints at a place is the library's entry there: both promise `Entry`, at all 885 places.
use Rattle.std.specs.Prelude.{◌≡◌}
use Rattle.records.specs.Notation.{ℕ}
use Rattle.hazard.specs.Entries.{Entry}

abbrev pub SameEntry : Type 0
SameEntry = (k printed held : ℕ) → Entry k printed → Entry k held → printed ≡ held
