-- P never reaches the threshold that refusal 10 had.
use native.Mathlib.Omega.{arith}
use Rattle.records.specs.Blank.{no_member}
use Rattle.records.specs.Records.{case_of}
use Rattle.checks.specs.Rows.{member_in}
use Rattle.storeys.specs.Storey.{over, shear_if_over, over_shear_of}
use Rattle.storeys.specs.Shears.{ShearBounded, NeverReached}
use Rattle.storeys.proofs.Accepted.{storey-rows}
use Rattle.storeys.proofs.Loops.{total-most, row-valid, pick-most}

pub over-shear-most : ShearBounded
unfolding over_shear_of
over-shear-most rules form k c met ms i good most =
    omega (arith, most, total-most (shear_if_over rules k met c) no_member 9_999_999 ms (λ j l. pick-most (over rules k met c (member_in ms j)) (case_of c (member_in ms j)).shear 9_999_999 (row-valid form c i ms (record { good = good; most = most }) j l).shear))

pub never-ten : NeverReached
never-ten rules form k c met s ms i none =
    let g = storey-rows k form s ms none in
    omega (arith, over-shear-most rules form k c met ms i g.good g.most)
