-- One row of a storey: a good member is judged, and its finding is added.
use Prim.Native.Nat.{ℕ, ◌≤◌}
use native.Mathlib.Omega.{arith}
use mathlib.Core.Bool.{Bool}
use mathlib.Core.Path.{◌≡◌, ap}
use Rattle.totals.specs.declared.Tally.{Tally}
use Rattle.totals.specs.Totals.{AddsNumbers, with_finding}
use Rattle.totals.proofs.Tallies.{room-takes}
use Rattle.storeys.specs.Tally.{with_member, AddsUp}
use Rattle.records.specs.declared.MemberCase.{MemberCase}
use Rattle.records.proofs.Validity.{valid}
use Rattle.members.specs.Units.{ratio_cap}
use Rattle.members.specs.declared.finding.Finding.{Finding}
use Rattle.members.specs.Finding.{axial, axial_ratio_d, finding, finding_by}

-- the n_D of a member is a ratio
pub nd-most : (m : MemberCase) → (axial_ratio_d m).0 ≤ ratio_cap
unfolding axial
nd-most m = omega arith

-- a good member's finding is added
pub with-good : (t : Tally) (k : ℕ) (met : Bool) (m : MemberCase) (f : Finding) → AddsUp t k m → f ≡ finding k met m → with_finding t f m ≡ with_member t k met m
unfolding with_finding with_member finding_by
with-good t k met m f u e =
    let v = valid m u.good in
    let q : f.nd.0 ≡ (axial_ratio_d m).0 = ap (λ (x : Finding). x.nd.0) e in
    let r : AddsNumbers t f.nd.0 m =
    record { fewer = u.fewer; axial-total = u.axial-total; over-shear = u.over-shear; damage = u.damage; ratio = omega (arith, nd-most m, q); shear = v.shear } in
    rw (room-takes t f.nd.0 m r) (rw e)
