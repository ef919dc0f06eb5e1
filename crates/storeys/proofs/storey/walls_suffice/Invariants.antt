use Rattle.std.proofs.Common.{◌≡◌, drop}
use Rattle.storeys.specs.Tally.{walls_from}
use Rattle.storeys.proofs.storey.walls_suffice.Given as goal

abbrev pub invariant-loop-m : goal.invariant-loop-m
invariant-loop-m l = walls_from l.walls l.c (drop l.m-index l.rows) ≡ walls_from 0 l.c l.rows
