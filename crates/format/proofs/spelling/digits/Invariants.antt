use Prim.Native.Nat.{◌^◌, ◌<◌}
use mathlib.Core.Path.{◌≡◌}
use lib.ListN.{drop}
use Rattle.format.specs.Spelling.{value}
use Rattle.format.proofs.spelling.digits.Given as goal

abbrev pub invariant-loop-column : goal.invariant-loop-column
invariant-loop-column l = (l.number < 10 ^ l.column-index) × (value l.number (drop l.column-index l.columns) ≡ value 0 l.columns)
