-- The code's rows of ranges as what the fields may hold.
use Rattle.std.specs.Prelude.{List, map}
use Rattle.records.specs.Records.{Allowed, between}
use Rattle.ranges.specs.declared.Range.{Range}

abbrev pub row : Range → Allowed
row r = between r.least r.most

abbrev pub rows : List Range → List Allowed
rows = map row
