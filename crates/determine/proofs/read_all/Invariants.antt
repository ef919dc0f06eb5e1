use Rattle.std.proofs.Common.{length, take, ◌-◌, ◌≤◌}
use Rattle.std.specs.Io.KnownBytes.{Consumes}
use Rattle.determine.specs.Transfer.{moved_of, Moving}
use Rattle.determine.proofs.read_all.Given as goal

abbrev pub invariant-loop-done : goal.invariant-loop-done
invariant-loop-done g l =
    (l.done ≤ length l.fn.buffer) × Consumes (g.R.Read.remaining l.fn.input.stream) (g.R.Read.remaining l.input.stream) (take l.done l.buffer) × Moving (moved_of l.input.last)

abbrev pub decreases-loop-done : goal.decreases-loop-done
decreases-loop-done g l = length l.fn.buffer - l.done
