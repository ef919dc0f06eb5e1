-- The conditions of demand 3 can be met, and what it carries is there: two accepted surveys in different orders of storeys and members, with a column that
-- goes from A to C, a wall, tension and damage.
use Prim.Native.Nat.{ℕ, zero, suc, ◌+◌, ◌-◌, ◌≤◌, ◌<◌}
use native.Mathlib.Omega.{arith}
use mathlib.Core.Bool.{true, false}
use mathlib.Core.List.{[], ◌∷◌}
use mathlib.Core.Path.{◌≡◌, refl}
use lib.ListN.{get_or}
use Rattle.std.specs.Prelude.{Ok, Some}
use Rattle.records.specs.Notation.{every_below, any_below, first, listed, total, any_of}
use Rattle.records.specs.Records.{zero_force, no_case, header_fault, storey_fault, is_blank, member_fault, in_case}
use Rattle.records.specs.declared.LoadCase.{LoadCase}
use Rattle.records.specs.declared.Member.{Member}
use Rattle.records.specs.Blank.{no_member}
use Rattle.members.specs.declared.class.Class.TheVariants.{ColumnA, ColumnC}
use Rattle.members.specs.Class.{is_wall, detailed, column_class, wall_class, class_of}
use Rattle.members.specs.Tables.{places, moments, rotations}
use Rattle.members.specs.Limits.{interp, blend, column_a, column_b, column_c, wall_rows, wall_b, m_limit_at, rotation_limit_at}
use Rattle.members.specs.Finding.{axial, moment, stress, hoops, m_limit_of, rotation_limit_of, m_dropped_of, is_over, finding_by, answer_by}
use Rattle.totals.specs.Share.{allowed_share, exceeds_share}
use Rattle.checks.specs.Rows.{row_fault, member_rows_fault, members_before, members_of, counts_fault, storey_rows_fault, records_fault}
use Rattle.storeys.specs.Storey.{published_rules, meets_wall_share, axial_total_of, over_shear_of, some_over, damaged, risky_by_damage, case_risky, storey_risky, lowest_risky_case, storey_finding, storey_call_fault, storey_answer_by}
use Rattle.storeys.specs.Building.{risky_at, tilted, some_risky, building_risky, first_risky, lowest_case_at, first_risky_case, building_returned}
use Rattle.comparison.specs.Pairing.{none, pair, EveryPair}
use Rattle.comparison.specs.Demand3.{BuildingAnswer, SameClass, Survey, storey_members_at, Accepted, Over, Risky, building_risky_in, StoreyPairs, AtLeastAsSevere, NowhereBetter, Carried}
use Rattle.comparison.proofs.Demand3.{demand3}

-- what the members below differ in
pub record Given : Type 0 where
  pub number : ℕ
  pub long : ℕ
  pub short : ℕ
  pub hoops : ℕ
  pub strengthened : ℕ
  pub damage : ℕ
  pub nd : ℕ
  pub nk : ℕ
  pub ve : ℕ
  pub shear : ℕ

abbrev pub case : Given → LoadCase
case g = record { nk = g.nk; me = 500; mp = 100; ve = g.ve; vr = 1_000; shear = g.shear; rotation = 0; drift = 0 }

abbrev pub member : Given → Member
member g =
    record {
      number = g.number;
      long = g.long;
      short = g.short;
      area = 100_000;
      fcm = 100;
      fctm = 100;
      fyw = 2_200;
      depth = 1_000;
      height = 3_000;
      spacing = 100;
      core = 400;
      hoops = g.hoops;
      hooks = 1;
      zone = 1;
      strengthened = g.strengthened;
      factor = 100;
      damage = g.damage;
      nd = g.nd;
      annex_e = 1;
      cases = case g ∷ no_case ∷ no_case ∷ no_case ∷ [];
    }

-- a column of class A, its partner of class C
abbrev pub column : Given
column = record { number = 1; long = 400; short = 250; hoops = 130; strengthened = 0; damage = 0; nd = zero_force + 3_000; nk = zero_force + 3_000; ve = 100; shear = 300 }

abbrev pub column_later : Given
column_later = record { number = 7; long = 400; short = 250; hoops = 0; strengthened = 0; damage = 2; nd = zero_force + 3_500; nk = zero_force + 4_000; ve = 1_500; shear = 400 }

-- walls of class A
abbrev pub wall : ℕ → ℕ → Given
wall number ve = record { number = number; long = 1_000; short = 100; hoops = 0; strengthened = 0; damage = 0; nd = zero_force; nk = zero_force; ve = ve; shear = 400 }

-- strengthened columns in tension
abbrev pub tension : ℕ → ℕ → ℕ → Given
tension number pull damage =
    record { number = number; long = 400; short = 250; hoops = 0; strengthened = 1; damage = damage; nd = zero_force - pull; nk = zero_force - pull; ve = 0; shear = 200 }

abbrev pub one : Survey
one =
    record {
      header = record { knowledge = 90; height = 9_000; storeys = 3; tilt1 = 100; tilt2 = 200; count = 2; form = 1 };
      storeys = record { number = 1; shears = 1_000 ∷ 0 ∷ 0 ∷ 0 ∷ []; count = 2 } ∷ record { number = 2; shears = 500 ∷ 0 ∷ 0 ∷ 0 ∷ []; count = 1 } ∷ [];
      members = member column ∷ member (wall 2 500) ∷ member (tension 1 900 1) ∷ [];
    }

abbrev pub other : Survey
other =
    record {
      header = record { knowledge = 90; height = 12_000; storeys = 4; tilt1 = 100; tilt2 = 300; count = 2; form = 1 };
      storeys = record { number = 8; shears = 500 ∷ 0 ∷ 0 ∷ 0 ∷ []; count = 1 } ∷ record { number = 9; shears = 1_000 ∷ 0 ∷ 0 ∷ 0 ∷ []; count = 2 } ∷ [];
      members = member (tension 4 800 3) ∷ member (wall 6 600) ∷ member column_later ∷ [];
    }

-- the first storey's partner comes second, and there the column's too
unfoldable pub pairs : StoreyPairs one other
unfolding listed members_before members_of
pairs = pair (_ ∷ []) [] (pair (member (wall 6 600) ∷ []) [] (record {}) (pair [] [] (record {}) none)) (pair [] [] (pair [] [] (record {}) none) none)

worse : (g h : Given) → g.long ≡ h.long → g.short ≡ h.short → g.strengthened ≡ h.strengthened → (is_wall (in_case 0 (member g)) ≡ true → g.shear ≡ h.shear) → g.nd ≤ h.nd → g.nk ≤ h.nk → g.ve ≤ h.ve → g.shear ≤ h.shear → g.damage ≤ h.damage → h.hoops ≤ g.hoops → (is_wall (in_case 0 (member g)) ≡ true → class_of 90 (in_case 0 (member g)) ≡ class_of 90 (in_case 0 (member h))) → (h.strengthened ≡ 1 → class_of 90 (in_case 0 (member h)) ≡ ColumnC → class_of 90 (in_case 0 (member g)) ≡ ColumnC) → AtLeastAsSevere SameClass 1 90 (member g) (member h)
worse g h long short strengthened wall-shear nd nk ve shear damage hoops wall-class c zero l =
    record {
      long = long;
      short = short;
      area = refl;
      depth = refl;
      height = refl;
      spacing = refl;
      core = refl;
      fcm = refl;
      fctm = refl;
      fyw = refl;
      hooks = refl;
      zone = refl;
      strengthened = strengthened;
      annex-e = refl;
      wall-shear = wall-shear;
      nd = nd;
      nk = nk;
      me = omega arith;
      ve = ve;
      rotation = omega arith;
      drift = omega arith;
      column-shear = λ e. shear;
      damage = damage;
      mp = omega arith;
      vr = omega arith;
      hoops = hoops;
      factor = omega arith;
      wall-class = wall-class;
      strengthened-c = λ e f d. c f d;
    }
worse g h long short strengthened wall-shear nd nk ve shear damage hoops wall-class c (suc i) l = let z : ⊥ = omega arith in absurd z

column-worse : AtLeastAsSevere SameClass 1 90 (member column) (member column_later)
column-worse =
    worse column column_later refl refl refl (λ e. cc) (omega arith) (omega arith) (omega arith) (omega arith) (omega arith) (omega arith) (λ e. cc)
    (λ e f. let z : ⊥ = omega (arith, e) in absurd z)

wall-worse : AtLeastAsSevere SameClass 1 90 (member (wall 2 500)) (member (wall 6 600))
unfolding class_of wall_class
wall-worse =
    worse (wall 2 500) (wall 6 600) refl refl refl (λ e. refl) (omega arith) (omega arith) (omega arith) (omega arith) (omega arith) (omega arith) (λ e. refl)
    (λ e f. let z : ⊥ = omega (arith, e) in absurd z)

tension-worse : AtLeastAsSevere SameClass 1 90 (member (tension 1 900 1)) (member (tension 4 800 3))
unfolding class_of detailed column_class
tension-worse =
    worse (tension 1 900 1) (tension 4 800 3) refl refl refl (λ e. cc) (omega arith) (omega arith) (omega arith) (omega arith) (omega arith) (omega arith) (λ e. cc)
    (λ e f. f)

-- the only shear of the old form
same-shears : {x y : ℕ} → x ≡ y → (c : ℕ) → c < 1 → get_or (x ∷ 0 ∷ 0 ∷ 0 ∷ []) c 0 ≡ get_or (y ∷ 0 ∷ 0 ∷ 0 ∷ []) c 0
same-shears e zero l = e
same-shears e (suc c) l = let z : ⊥ = omega arith in absurd z

-- all conditions on the two surveys and their pairs
pub met : NowhereBetter SameClass one other pairs
unfolding pairs listed members_before members_of EveryPair
met =
    record {
      form = refl;
      knowledge = refl;
      tilt1 = omega arith;
      tilt2 = omega arith;
      storeys =
          (record { shear = same-shears refl; members = (column-worse, (wall-worse, record {})) }, (record { shear = same-shears refl; members = (tension-worse, record {}) }, record {}));
    }

-- the classes of the column and its partner
pub classes : (class_of 90 (in_case 0 (member column)) ≡ ColumnA) × (class_of 90 (in_case 0 (member column_later)) ≡ ColumnC)
unfolding class_of detailed column_class
classes = (refl, refl)

-- what the call on each building answers: the first names its second storey, the other its first, which is the partner
abbrev pub answer_one : BuildingAnswer
answer_one = Ok (record { tilted = false; risky = true; first = Some (record { place = 2; case = 1; counted = (omega arith, omega arith) }) })

abbrev pub answer_other : BuildingAnswer
answer_other = Ok (record { tilted = false; risky = true; first = Some (record { place = 1; case = 1; counted = (omega arith, omega arith) }) })

-- both surveys are accepted, and in the first the column is over, the second storey Risky and so the building
pub record Found : Type 0 where
  pub one-accepted : Accepted published_rules one answer_one
  pub other-accepted : Accepted published_rules other answer_other
  pub column-over : Over published_rules one (storey_members_at one 0) 0 (member column)
  pub storey-risky : Risky published_rules one (storey_members_at one 1)
  pub building-risky : building_risky_in answer_one ≡ true

pub found : Found
unfolding every_below any_below first header_fault storey_fault is_blank member_fault detailed column_class wall_class class_of places moments rotations interp blend column_a column_b column_c wall_rows wall_b m_limit_at rotation_limit_at axial moment stress hoops m_limit_of rotation_limit_of m_dropped_of is_over finding_by answer_by total any_of meets_wall_share axial_total_of over_shear_of some_over damaged allowed_share exceeds_share risky_by_damage case_risky storey_risky storey_finding no_member row_fault member_rows_fault storey_call_fault storey_answer_by members_before members_of risky_at counts_fault storey_rows_fault records_fault tilted some_risky building_risky first_risky lowest_case_at first_risky_case building_returned lowest_risky_case
found =
    record {
      one-accepted = record { answers = refl; no-refusal = refl };
      other-accepted = record { answers = refl; no-refusal = refl };
      column-over = refl;
      storey-risky = refl;
      building-risky = refl;
    }

-- demand 3 of the two surveys
pub carried : Carried published_rules one other answer_one answer_other pairs
carried = demand3 one other answer_one answer_other found.one-accepted found.other-accepted pairs met

-- so the partners are over and Risky
pub partners : Over published_rules other (storey_members_at other 1) 0 (member column_later) × Risky published_rules other (storey_members_at other 0) × (building_risky_in answer_other ≡ true)
unfolding pairs listed members_before members_of EveryPair
partners = (carried.members.0.0 0 (omega arith) found.column-over, carried.storeys.1.0 found.storey-risky, carried.building found.building-risky)
