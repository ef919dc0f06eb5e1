use Rattle.std.proofs.Common.{◌≡◌, ◌-◌, ◌+◌, length}
use Rattle.members.specs.Limits.{row_at, rows_after, interp, along}
use Rattle.members.proofs.limits.interpolate.Given as goal

abbrev pub invariant-loop-at : goal.invariant-loop-at
invariant-loop-at g l =
    (l.from ≡ row_at l.places l.limits (length l.yielded)) × (interp l.from (rows_after l.places l.limits (length l.yielded) (g.row.N - (length l.yielded + 1))) l.x ≡ along g.row.N l.places l.limits l.x)
