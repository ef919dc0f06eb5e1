-- The widened comparison applied to two surveys in which a strengthened wall passes from A to B, with its finding to carry; and two at one step above 0.2, of which
-- the second is cleared.
use Prim.Native.Nat.{ℕ, zero, suc, ◌+◌}
use native.Mathlib.Omega.{arith}
use mathlib.Core.Bool.{true, false}
use mathlib.Core.List.{[], ◌∷◌}
use mathlib.Core.Path.{◌≡◌, refl}
use mathlib.Core.Logic.{inr}
use Rattle.std.specs.Prelude.{Ok, None, Some}
use Rattle.records.specs.Notation.{every_below, any_below, first, listed, total, any_of}
use Rattle.records.specs.Records.{zero_force, no_case, header_fault, storey_fault, is_blank, member_fault, in_case}
use Rattle.records.specs.declared.Member.{Member}
use Rattle.records.specs.Blank.{no_member}
use Rattle.members.specs.Class.{detailed, column_class, wall_class, class_of}
use Rattle.members.specs.Tables.{published, places, moments, rotations}
use Rattle.members.specs.Limits.{interp, blend, column_a, column_b, column_c, wall_rows, wall_b, m_limit_at, rotation_limit_at}
use Rattle.members.specs.Finding.{axial, moment, stress, hoops, m_limit_of, rotation_limit_of, m_dropped_of, is_over, finding_by, answer_by}
use Rattle.totals.specs.Share.{allowed_share, exceeds_share}
use Rattle.checks.specs.Rows.{row_fault, member_rows_fault, members_before, members_of, counts_fault, storey_rows_fault, records_fault}
use Rattle.storeys.specs.Storey.{published_rules, meets_wall_share, axial_total_of, over_shear_of, some_over, damaged, risky_by_damage, case_risky, storey_risky, lowest_risky_case, storey_finding, storey_call_fault, storey_answer_by}
use Rattle.storeys.specs.Building.{risky_at, tilted, some_risky, building_risky, first_risky, lowest_case_at, first_risky_case, building_returned}
use Rattle.comparison.specs.Pairing.{none, pair, EveryPair}
use Rattle.comparison.specs.Demand3.{BuildingAnswer, Survey, storey_members_at, Accepted, Over, Risky, building_risky_in, StoreyPairs, AtLeastAsSevere, NowhereBetter, Carried}
use Rattle.comparison.specs.WallsToB.{axial_most, PassesToB, WidenedBy, b_under_zone, Tight}
use Rattle.comparison.proofs.WallsToB.{b-under-published, demand3-widened}

-- what the walls below differ in; n is 2 × 10^9 / A_c and m 10 × M_e
pub record Given : Type 0 where
  pub area : ℕ
  pub strengthened : ℕ
  pub me : ℕ

-- a wall with boundary zone, v 90,000: of class A with V_r 901, of class B with V_r 900
abbrev pub wall : Given → ℕ → Member
wall g vr =
    record {
      number = 1;
      long = 1_000;
      short = 100;
      area = g.area;
      fcm = 100;
      fctm = 100;
      fyw = 2_200;
      depth = 1_000;
      height = 3_000;
      spacing = 100;
      core = 400;
      hoops = 130;
      hooks = 1;
      zone = 1;
      strengthened = g.strengthened;
      factor = 100;
      damage = 0;
      nd = zero_force;
      annex_e = 0;
      cases =
          record { nk = zero_force + 2_000; me = g.me; mp = 10_000; ve = 900; vr = vr; shear = 1_000; rotation = 0; drift = 7_500 }
          ∷ no_case ∷ no_case ∷ no_case ∷ [];
    }

-- a building of one storey with the wall
abbrev pub survey_with : Member → Survey
survey_with m =
    record {
      header = record { knowledge = 100; height = 9_000; storeys = 3; tilt1 = 0; tilt2 = 0; count = 1; form = 1 };
      storeys = record { number = 1; shears = 1_000 ∷ 0 ∷ 0 ∷ 0 ∷ []; count = 1 } ∷ [];
      members = m ∷ [];
    }

abbrev pub one : Given → Survey
one g = survey_with (wall g 901)

abbrev pub other : Given → Survey
other g = survey_with (wall g 900)

unfoldable pub pairs : (g : Given) → StoreyPairs (one g) (other g)
unfolding listed members_before members_of
pairs g = pair [] [] (pair [] [] (record {}) none) none

-- the wall passes from A to B, and V_r alone is worse
worse : (most : ℕ) (g : Given) → PassesToB most 100 (in_case 0 (wall g 901)) (in_case 0 (wall g 900)) → AtLeastAsSevere (WidenedBy most) 1 100 (wall g 901) (wall g 900)
worse most g to zero l =
    record {
      long = refl;
      short = refl;
      area = refl;
      depth = refl;
      height = refl;
      spacing = refl;
      core = refl;
      fcm = refl;
      fctm = refl;
      fyw = refl;
      hooks = refl;
      zone = refl;
      strengthened = refl;
      annex-e = refl;
      wall-shear = λ e. refl;
      nd = omega arith;
      nk = omega arith;
      me = omega arith;
      ve = omega arith;
      rotation = omega arith;
      drift = omega arith;
      column-shear = λ e. omega arith;
      damage = omega arith;
      mp = omega arith;
      vr = omega arith;
      hoops = omega arith;
      factor = omega arith;
      wall-class = λ e. inr to;
      strengthened-c = λ e. cc;
    }
worse most g to (suc c) l = let z : ⊥ = omega arith in absurd z

met : (most : ℕ) (g : Given) → PassesToB most 100 (in_case 0 (wall g 901)) (in_case 0 (wall g 900)) → NowhereBetter (WidenedBy most) (one g) (other g) (pairs g)
unfolding pairs listed members_before members_of EveryPair
met most g to =
    record {
      form = refl;
      knowledge = refl;
      tilt1 = omega arith;
      tilt2 = omega arith;
      storeys = (record { shear = λ c l. refl; members = (worse most g to, record {}) }, record {});
    }

-- ---- at n 20,000, m 500,010: above the 500,000 of class A, and the 250,000 that a strengthened wall of class B keeps
abbrev pub stiff : Given
stiff = record { area = 100_000; strengthened = 1; me = 50_001 }

abbrev pub risky_answer : BuildingAnswer
risky_answer = Ok (record { tilted = false; risky = true; first = Some (record { place = 1; case = 1; counted = (omega arith, omega arith) }) })

pub record Found : Type 0 where
  pub one-accepted : Accepted published_rules (one stiff) risky_answer
  pub other-accepted : Accepted published_rules (other stiff) risky_answer
  pub wall-over : Over published_rules (one stiff) (storey_members_at (one stiff) 0) 0 (wall stiff 901)
  pub storey-risky : Risky published_rules (one stiff) (storey_members_at (one stiff) 0)

pub found : Found
unfolding every_below any_below first header_fault storey_fault is_blank member_fault detailed column_class wall_class class_of places moments rotations interp blend column_a column_b column_c wall_rows wall_b m_limit_at rotation_limit_at axial moment stress hoops m_limit_of rotation_limit_of m_dropped_of is_over finding_by answer_by total any_of meets_wall_share axial_total_of over_shear_of some_over damaged allowed_share exceeds_share risky_by_damage case_risky storey_risky storey_finding no_member row_fault member_rows_fault storey_call_fault storey_answer_by members_before members_of risky_at counts_fault storey_rows_fault records_fault tilted some_risky building_risky first_risky lowest_case_at first_risky_case building_returned lowest_risky_case
found = record { one-accepted = record { answers = refl; no-refusal = refl }; other-accepted = record { answers = refl; no-refusal = refl }; wall-over = refl; storey-risky = refl }

passes : PassesToB axial_most 100 (in_case 0 (wall stiff 901)) (in_case 0 (wall stiff 900))
unfolding class_of wall_class axial
passes = record { zone = refl; from-a = refl; to-b = refl; axial = omega arith; partner-axial = omega arith }

pub carried : Carried published_rules (one stiff) (other stiff) risky_answer risky_answer (pairs stiff)
carried = demand3-widened (one stiff) (other stiff) risky_answer risky_answer found.one-accepted found.other-accepted (pairs stiff) (met axial_most stiff passes)

-- so the partner is over and its storey Risky
pub partners : Over published_rules (other stiff) (storey_members_at (other stiff) 0) 0 (wall stiff 900) × Risky published_rules (other stiff) (storey_members_at (other stiff) 0)
unfolding pairs listed members_before members_of EveryPair
partners = (carried.members.0.0 0 (omega arith) found.wall-over, carried.storeys.0 found.storey-risky)

-- ---- at n 20,001, m 499,990: above the 499,980 of class A, and not above the 500,000 of class B
abbrev pub loaded : Given
loaded = record { area = 99_996; strengthened = 0; me = 49_999 }

abbrev pub cleared_answer : BuildingAnswer
cleared_answer = Ok (record { tilted = false; risky = false; first = None })

one-risky : Accepted published_rules (one loaded) risky_answer
unfolding every_below any_below first header_fault storey_fault is_blank member_fault detailed column_class wall_class class_of places moments rotations interp blend column_a column_b column_c wall_rows wall_b m_limit_at rotation_limit_at axial moment stress hoops m_limit_of rotation_limit_of m_dropped_of is_over finding_by answer_by total any_of meets_wall_share axial_total_of over_shear_of some_over damaged allowed_share exceeds_share risky_by_damage case_risky storey_risky storey_finding no_member row_fault member_rows_fault storey_call_fault storey_answer_by members_before members_of risky_at counts_fault storey_rows_fault records_fault tilted some_risky building_risky first_risky lowest_case_at first_risky_case building_returned lowest_risky_case
one-risky = record { answers = refl; no-refusal = refl }

other-cleared : Accepted published_rules (other loaded) cleared_answer
unfolding every_below any_below first header_fault storey_fault is_blank member_fault detailed column_class wall_class class_of places moments rotations interp blend column_a column_b column_c wall_rows wall_b m_limit_at rotation_limit_at axial moment stress hoops m_limit_of rotation_limit_of m_dropped_of is_over finding_by answer_by total any_of meets_wall_share axial_total_of over_shear_of some_over damaged allowed_share exceeds_share risky_by_damage case_risky storey_risky storey_finding no_member row_fault member_rows_fault storey_call_fault storey_answer_by members_before members_of risky_at counts_fault storey_rows_fault records_fault tilted some_risky building_risky first_risky lowest_case_at first_risky_case building_returned lowest_risky_case
other-cleared = record { answers = refl; no-refusal = refl }

passes-above : PassesToB (axial_most + 1) 100 (in_case 0 (wall loaded 901)) (in_case 0 (wall loaded 900))
unfolding class_of wall_class axial
passes-above = record { zone = refl; from-a = refl; to-b = refl; axial = omega arith; partner-axial = omega arith }

not-under : b_under_zone published (axial_most + 1) ≡ false
unfolding b_under_zone places moments rotations
not-under = refl

pub tight : Tight
tight =
    record {
      at-bound = b-under-published;
      past-bound = not-under;
      claim-past-bound =
          λ claim.
          let kept : building_risky_in cleared_answer ≡ true = (claim (one loaded) (other loaded) risky_answer cleared_answer one-risky other-cleared (pairs loaded) (met (axial_most + 1) loaded passes-above)).building refl in
          let z : ◌≡◌ {A = ℕ} 0 1 = cc in omega arith;
    }
