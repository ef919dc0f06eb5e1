-- The class of a member (document 01, "Member"): "Class tests are exact".
use Rattle.std.specs.Prelude.{◌*◌, ◌&&◌, ◌||◌}
use Rattle.records.specs.Notation.{ℕ, Bool, leb, ltb, eqb, pick}
use Rattle.records.specs.declared.MemberCase.{MemberCase}
pub use Rattle.members.specs.declared.class.Class.{Class, TheVariants.ColumnA, TheVariants.ColumnB, TheVariants.ColumnC, TheVariants.WallA, TheVariants.WallB}

-- "class (1 to 3 columns A to C, 4 and 5 walls A and B)"
abbrev pub code : Class → ℕ
code ColumnA = 1
code ColumnB = 2
code ColumnC = 3
code WallA = 4
code WallB = 5

-- "A member is a wall when long side ≥ 5 × short side, else a column"
abbrev pub is_wall : MemberCase → Bool
is_wall m = leb (5 * m.short) m.long

-- "100 × A_sh × f_yw ≥ 6 × f_cm × s × b_k"
abbrev pub hoops_hold : ℕ → ℕ → ℕ → ℕ → ℕ → Bool
hoops_hold hoops fyw fcm s core = leb (6 * fcm * s * core) (100 * hoops * fyw)

-- "detailed" means s ≤ 100, hooks 1, and enough hoops
unfoldable pub detailed : MemberCase → Bool
detailed m = leb m.spacing 100 && (eqb m.hooks 1 && hoops_hold m.hoops m.fyw m.fcm m.spacing m.core)

-- "100 × V_e < k × V_r"
abbrev pub shear_below : ℕ → ℕ → ℕ → Bool
shear_below k ve vr = ltb (100 * ve) (k * vr)

-- "With 1000 × V_e ≤ 7 × k × V_r: A if detailed, else B. Otherwise B if detailed or 1000 × V_e ≤ 11 × k × V_r, else C"
unfoldable pub column_class : Bool → ℕ → ℕ → ℕ → Class
column_class d k ve vr = pick (leb (1_000 * ve) (7 * k * vr)) (pick d ColumnA ColumnB) (pick (d || leb (1_000 * ve) (11 * k * vr)) ColumnB ColumnC)

-- "Wall: A when H_w ≥ 2 × long side and 100 × V_e < k × V_r, else B"
unfoldable pub wall_class : ℕ → ℕ → ℕ → ℕ → ℕ → Class
wall_class hw long k ve vr = pick (leb (2 * long) hw && shear_below k ve vr) WallA WallB

unfoldable pub class_of : ℕ → MemberCase → Class
class_of k m = pick (is_wall m) (wall_class m.height m.long k m.case.ve m.case.vr) (column_class (detailed m) k m.case.ve m.case.vr)
