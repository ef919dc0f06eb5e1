-- The load cases of a storey together.
use mathlib.Core.Bool.{or-true}
use Rattle.records.specs.Notation.{any_below}
use Rattle.storeys.specs.Storey.{risky_by_share, risky_by_one_over, case_risky, storey_risky}
use Rattle.storeys.specs.Cases.{RiskyInFirst, DamagedInEvery}

pub risky-in-first : RiskyInFirst
unfolding storey_risky any_below
risky-in-first rules form k s ms e = rw e

pub damaged-in-every : DamagedInEvery
unfolding case_risky
damaged-in-every rules k c w ms e = rw (e, or-true (risky_by_one_over rules k c w ms), or-true (risky_by_share rules k c w ms))
