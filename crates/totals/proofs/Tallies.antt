-- What a member adds to the totals.
use Prim.Native.Nat.{ℕ}
use mathlib.Core.Bool.{true}
use mathlib.Core.Path.{◌≡◌}
use borrow.Author.Tests.{le-leb, lt-ltb}
use Rattle.totals.specs.declared.Tally.{Tally}
use Rattle.totals.specs.Totals.{takes_one, AddsNumbers}
use Rattle.records.specs.declared.MemberCase.{MemberCase}

-- totals that leave room for a member take it
pub room-takes : (t : Tally) (nd : ℕ) (m : MemberCase) → AddsNumbers t nd m → takes_one t nd m.case.shear ≡ true
room-takes t nd m r =
    rw (lt-ltb _ _ r.fewer, le-leb _ _ r.axial-total, le-leb _ _ r.over-shear, le-leb _ _ r.damage, le-leb _ _ r.ratio, le-leb _ _ r.shear)
