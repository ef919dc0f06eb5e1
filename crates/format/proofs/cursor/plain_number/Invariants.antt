use Prim.Native.Nat.{◌+◌, ◌^◌, ◌<◌}
use mathlib.Core.Bool.{false}
use mathlib.Core.Path.{◌≡◌}
use lib.ListN.{drop}
use Rattle.format.specs.Spelling.{field_of}
use Rattle.format.proofs.Scan.{scanned}
use Rattle.format.proofs.cursor.plain_number.Given as goal

abbrev pub invariant-loop-column : goal.invariant-loop-column
invariant-loop-column l = (l.number < 10 ^ (l.column-index + 1)) × (scanned l.number (drop (l.column-index + 1) l.columns) ≡ field_of false l.columns)
