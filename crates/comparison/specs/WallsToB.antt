-- The widened comparison (document 02, N11: "a wall with boundary zone may go from class A to class B, provided its N_K / (f_cm × A_c) is at most 0.2 in both after
-- rounding up. All other walls keep the same class, as before").
use Rattle.std.specs.Prelude.{ℕ, ◌+◌, ◌-◌, ◌*◌, ◌≤◌, Bool, true, false, ◌&&◌, ◌⊎◌, ◌≡◌, leb, ltb, slice_index}
use Rattle.records.specs.declared.MemberCase.{MemberCase}
use Rattle.members.specs.declared.class.Class.TheVariants.{WallA, WallB}
use Rattle.members.specs.declared.tables.Places.{Places}
use Rattle.members.specs.declared.tables.Table.{Table}
use Rattle.members.specs.declared.tables.LimitSet.{LimitSet}
use Rattle.members.specs.Tables.{published}
use Rattle.members.specs.Class.{class_of}
use Rattle.members.specs.Finding.{axial_ratio}
use Rattle.storeys.specs.Storey.{published_rules}
use Rattle.comparison.specs.Demand3.{WallCondition, SameClass, Demand3By}

-- "at most 0.2": hundred-thousandths
abbrev pub axial_most : ℕ
axial_most = 20_000

-- a wall m with boundary zone is of class A and its partner n of class B, each with an axial ratio of at most so much
pub record PassesToB (most k : ℕ) (m n : MemberCase) : Type 0 where
  pub zone : m.zone ≡ 1
  pub from-a : class_of k m ≡ WallA
  pub to-b : class_of k n ≡ WallB
  pub axial : (axial_ratio m).0 ≤ most
  pub partner-axial : (axial_ratio n).0 ≤ most

-- the condition on walls, in each case: a wall passes from A to B, or it keeps its class
abbrev pub WidenedBy : ℕ → WallCondition
WidenedBy most k m n = SameClass k m n ⊎ PassesToB most k m n

abbrev pub Widened : WallCondition
Widened = WidenedBy axial_most

-- N11: demand 3 under this condition, "for the published limits, with N6's halving in force"
abbrev pub Demand3Widened : Type 0
Demand3Widened = Demand3By Widened published_rules

-- at row i of stress, the limit of class B is at most that of class A with boundary zone at the axial ratio x, on the line between its two axial rows
abbrev pub row_under_zone : Places → Table → ℕ → ℕ → Bool
row_under_zone p t x i =
    let from = slice_index p.walls 0 in
    let to = slice_index p.walls 1 in
    leb (slice_index t.wall i * (to - from)) (slice_index t.zone1 i * (to - x) + slice_index t.zone2 i * (x - from))

abbrev pub table_under_zone : Places → Table → ℕ → Bool
table_under_zone p t x = row_under_zone p t x 0 && row_under_zone p t x 1

-- of a set in order: class B is nowhere above class A with boundary zone up to the axial ratio x, which stands past the first axial row of walls and not past the second;
-- of m and of the rotation
unfoldable pub b_under_zone : LimitSet → ℕ → Bool
b_under_zone s x =
    (ltb (slice_index s.places.walls 0) x && leb x (slice_index s.places.walls 1)) && (table_under_zone s.places s.m x && table_under_zone s.places s.rotation x)

-- the published set passes that test at 0.2 and not at one step more; and at one step more the claim is false
pub record Tight : Type 0 where
  pub at-bound : b_under_zone published axial_most ≡ true
  pub past-bound : b_under_zone published (axial_most + 1) ≡ false
  pub claim-past-bound : Demand3By (WidenedBy (axial_most + 1)) published_rules → ⊥
