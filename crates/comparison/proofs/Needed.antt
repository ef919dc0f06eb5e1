-- The conditions of demand 3 that cannot be left out: one test, computed.
use mathlib.Core.Path.{refl}
use Rattle.records.specs.Notation.{every_below, any_below, first, total, any_of}
use Rattle.records.specs.Records.{header_fault, storey_fault, is_blank, member_fault}
use Rattle.records.specs.Blank.{no_member}
use Rattle.members.specs.Class.{detailed, column_class, wall_class, class_of}
use Rattle.members.specs.Tables.{places, moments, rotations}
use Rattle.members.specs.Limits.{interp, blend, column_a, column_b, column_c, wall_rows, wall_b, m_limit_at, rotation_limit_at}
use Rattle.members.specs.Finding.{axial, moment, stress, hoops, m_limit_of, rotation_limit_of, m_dropped_of, is_over, finding_by}
use Rattle.totals.specs.Share.{allowed_share, exceeds_share}
use Rattle.checks.specs.Rows.{row_fault, member_rows_fault, members_before, members_of, counts_fault, storey_rows_fault, records_fault}
use Rattle.storeys.specs.Storey.{meets_wall_share, axial_total_of, over_shear_of, some_over, damaged, risky_by_damage, case_risky, storey_risky, lowest_risky_case}
use Rattle.storeys.specs.Building.{risky_at, tilted, some_risky, building_risky, first_risky, lowest_case_at, first_risky_case, building_returned}
use Rattle.comparison.specs.Needed.{AllNeeded, needed}

pub needed-all : AllNeeded
unfolding every_below any_below first header_fault storey_fault is_blank member_fault detailed column_class wall_class class_of places moments rotations interp blend column_a column_b column_c wall_rows wall_b m_limit_at rotation_limit_at axial moment stress hoops m_limit_of rotation_limit_of m_dropped_of is_over finding_by total any_of meets_wall_share axial_total_of over_shear_of some_over damaged allowed_share exceeds_share risky_by_damage case_risky storey_risky no_member row_fault member_rows_fault members_before members_of risky_at counts_fault storey_rows_fault records_fault tilted some_risky building_risky first_risky lowest_case_at first_risky_case building_returned lowest_risky_case needed
needed-all = refl
