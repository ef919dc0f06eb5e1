-- Demand 3 applied to two surveys in four load cases, of which the first is Risky in case 3 alone.
use Prim.Native.Nat.{ℕ, zero, suc, ◌+◌, ◌≤◌}
use native.Mathlib.Omega.{arith}
use mathlib.Core.Bool.{true, false}
use mathlib.Core.List.{[], ◌∷◌}
use mathlib.Core.Path.{◌≡◌, refl}
use Rattle.std.specs.Prelude.{Ok, Some}
use Rattle.records.specs.Notation.{every_below, any_below, first, listed, total, any_of}
use Rattle.records.specs.Records.{zero_force, header_fault, storey_fault, is_blank, member_fault, with_case}
use Rattle.records.specs.declared.LoadCase.{LoadCase}
use Rattle.records.specs.declared.Member.{Member}
use Rattle.records.specs.Blank.{no_member}
use Rattle.members.specs.Class.{detailed, column_class, wall_class, class_of}
use Rattle.members.specs.Tables.{places, moments, rotations}
use Rattle.members.specs.Limits.{interp, blend, column_a, column_b, column_c, wall_rows, wall_b, m_limit_at, rotation_limit_at}
use Rattle.members.specs.Finding.{axial, moment, stress, hoops, m_limit_of, rotation_limit_of, m_dropped_of, is_over, finding_by, answer_by}
use Rattle.totals.specs.Share.{allowed_share, exceeds_share}
use Rattle.checks.specs.Rows.{row_fault, member_rows_fault, members_before, members_of, counts_fault, storey_rows_fault, records_fault}
use Rattle.storeys.specs.Storey.{published_rules, meets_wall_share, axial_total_of, over_shear_of, some_over, damaged, risky_by_damage, case_risky, storey_risky, lowest_risky_case, storey_finding, storey_call_fault, storey_answer_by}
use Rattle.storeys.specs.Building.{risky_at, tilted, some_risky, building_risky, first_risky, lowest_case_at, first_risky_case, building_returned}
use Rattle.comparison.specs.Pairing.{none, pair, EveryPair}
use Rattle.comparison.specs.Demand3.{BuildingAnswer, SameClass, Survey, storey_members_at, storey_answer, case_risky_in, Accepted, Over, Risky, CaseRisky, StoreyPairs, AtLeastAsSevereIn, AtLeastAsSevere, NowhereBetter, Carried}
use Rattle.comparison.proofs.Demand3.{demand3}

-- a load case with M_e
abbrev pub load_case : ℕ → LoadCase
load_case me = record { nk = zero_force + 3_000; me = me; mp = 100; ve = 100; vr = 1_000; shear = 400; rotation = 0; drift = 0 }

-- a column with M_e in cases 1 to 4
abbrev pub column : ℕ → ℕ → ℕ → ℕ → Member
column a b c d =
    record {
      number = 1;
      long = 400;
      short = 250;
      area = 100_000;
      fcm = 100;
      fctm = 100;
      fyw = 2_200;
      depth = 1_000;
      height = 3_000;
      spacing = 100;
      core = 400;
      hoops = 130;
      hooks = 1;
      zone = 0;
      strengthened = 0;
      factor = 100;
      damage = 0;
      nd = zero_force + 3_000;
      annex_e = 0;
      cases = load_case a ∷ load_case b ∷ load_case c ∷ load_case d ∷ [];
    }

-- a building of one storey with one column
abbrev pub survey_with : Member → Survey
survey_with m =
    record {
      header = record { knowledge = 100; height = 9_000; storeys = 3; tilt1 = 0; tilt2 = 0; count = 1; form = 2 };
      storeys = record { number = 1; shears = 1_000 ∷ 2_000 ∷ 900 ∷ 800 ∷ []; count = 1 } ∷ [];
      members = m ∷ [];
    }

abbrev pub one : Survey
one = survey_with (column 10 20 999 30)

abbrev pub other : Survey
other = survey_with (column 50 20 999 40)

unfoldable pub pairs : StoreyPairs one other
unfolding listed members_before members_of
pairs = pair [] [] (pair [] [] (record {}) none) none

-- a case of a column that is worse in M_e alone
case-worse : (x y : ℕ) → x ≤ y → AtLeastAsSevereIn SameClass 100 (with_case (column 0 0 0 0) (load_case x)) (with_case (column 0 0 0 0) (load_case y))
unfolding class_of detailed column_class
case-worse x y h =
    record {
      long = refl;
      short = refl;
      area = refl;
      depth = refl;
      height = refl;
      spacing = refl;
      core = refl;
      fcm = refl;
      fctm = refl;
      fyw = refl;
      hooks = refl;
      zone = refl;
      strengthened = refl;
      annex-e = refl;
      wall-shear = λ e. refl;
      nd = omega arith;
      nk = omega arith;
      me = h;
      ve = omega arith;
      rotation = omega arith;
      drift = omega arith;
      column-shear = λ e. omega arith;
      damage = omega arith;
      mp = omega arith;
      vr = omega arith;
      hoops = omega arith;
      factor = omega arith;
      wall-class = λ e. refl;
      strengthened-c = λ e f d. d;
    }

column-worse : AtLeastAsSevere SameClass 2 100 (column 10 20 999 30) (column 50 20 999 40)
column-worse zero l = case-worse 10 50 (omega arith)
column-worse (suc zero) l = case-worse 20 20 (omega arith)
column-worse (suc (suc zero)) l = case-worse 999 999 (omega arith)
column-worse (suc (suc (suc zero))) l = case-worse 30 40 (omega arith)
column-worse (suc (suc (suc (suc c)))) l = let z : ⊥ = omega arith in absurd z

pub met : NowhereBetter SameClass one other pairs
unfolding pairs listed members_before members_of EveryPair
met =
    record {
      form = refl;
      knowledge = refl;
      tilt1 = omega arith;
      tilt2 = omega arith;
      storeys = (record { shear = λ c l. refl; members = (column-worse, record {}) }, record {});
    }

-- both calls on a building name its only storey
abbrev pub answer : BuildingAnswer
answer = Ok (record { tilted = false; risky = true; first = Some (record { place = 1; case = 3; counted = (omega arith, omega arith) }) })

-- both surveys are accepted; in the first the column is over and the storey Risky in case 3 alone
pub record Found : Type 0 where
  pub one-accepted : Accepted published_rules one answer
  pub other-accepted : Accepted published_rules other answer
  pub column-over : Over published_rules one (storey_members_at one 0) 2 (column 10 20 999 30)
  pub storey-risky : CaseRisky published_rules one (storey_members_at one 0) 2
  pub no_other : (case_risky_in 0 (storey_answer published_rules one (storey_members_at one 0)) ≡ false) × (case_risky_in 1 (storey_answer published_rules one (storey_members_at one 0)) ≡ false) × (case_risky_in 3 (storey_answer published_rules one (storey_members_at one 0)) ≡ false)
  pub storey : Risky published_rules one (storey_members_at one 0)

pub found : Found
unfolding every_below any_below first header_fault storey_fault is_blank member_fault detailed column_class wall_class class_of places moments rotations interp blend column_a column_b column_c wall_rows wall_b m_limit_at rotation_limit_at axial moment stress hoops m_limit_of rotation_limit_of m_dropped_of is_over finding_by answer_by total any_of meets_wall_share axial_total_of over_shear_of some_over damaged allowed_share exceeds_share risky_by_damage case_risky storey_risky storey_finding no_member row_fault member_rows_fault storey_call_fault storey_answer_by members_before members_of risky_at counts_fault storey_rows_fault records_fault tilted some_risky building_risky first_risky lowest_case_at first_risky_case building_returned lowest_risky_case
found =
    record {
      one-accepted = record { answers = refl; no-refusal = refl };
      other-accepted = record { answers = refl; no-refusal = refl };
      column-over = refl;
      storey-risky = refl;
      no_other = (refl, refl, refl);
      storey = refl;
    }

-- demand 3 of the two surveys
pub carried : Carried published_rules one other answer answer pairs
carried = demand3 one other answer answer found.one-accepted found.other-accepted pairs met

-- so the partners are over and Risky in case 3
pub partners : Over published_rules other (storey_members_at other 0) 2 (column 50 20 999 40) × CaseRisky published_rules other (storey_members_at other 0) 2 × Risky published_rules other (storey_members_at other 0)
unfolding pairs listed members_before members_of EveryPair
partners = (carried.members.0.0 2 (omega arith) found.column-over, carried.cases.0 2 (omega arith) found.storey-risky, carried.storeys.0 found.storey)
