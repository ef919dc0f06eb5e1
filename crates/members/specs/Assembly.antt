-- The ratios of a member that its limits are taken at, as the code hands them on.
use Rattle.records.specs.declared.MemberCase.{MemberCase}
use Rattle.members.specs.declared.limits.Ratios.{Ratios}
use Rattle.members.specs.Finding.{axial_ratio, wall_stress, hoop_ratio}

unfoldable pub ratios : MemberCase → Ratios
ratios m = record { n = axial_ratio m; v = wall_stress m; rho = hoop_ratio m }
