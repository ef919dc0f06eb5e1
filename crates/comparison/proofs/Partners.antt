-- A member and a partner that is nowhere better: the laws of the member layer apply, so n_D never falls and over is carried.
use Prim.Native.Nat.{ℕ, ◌≤◌, ◌<◌}
use native.Mathlib.Omega.{arith}
use mathlib.Core.Bool.{Bool, true, false}
use mathlib.Core.Path.{◌≡◌}
use Rattle.records.specs.Valid.{Valid}
use Rattle.records.specs.declared.MemberCase.{MemberCase}
use Rattle.members.specs.declared.class.Class.TheVariants.{ColumnC}
use Rattle.members.specs.declared.tables.LimitSet.{LimitSet}
use Rattle.members.specs.Class.{is_wall, wall_class, class_of}
use Rattle.members.specs.Ordered.{ordered_set}
use Rattle.members.specs.Finding.{axial_ratio_d, is_over}
use Rattle.members.proofs.Worse.{Worse, Fallen, nd-worse, columns-fall, same-class-falls, over-stays}
use Rattle.totals.specs.Totals.{wall_shear}
use Rattle.comparison.specs.Demand3.{WallCondition, SameClass, AtLeastAsSevereIn}
use Rattle.comparison.specs.Orderly.{LimitsFall}

-- only a column is of class C
c-is-column : (k : ℕ) (m : MemberCase) → class_of k m ≡ ColumnC → is_wall m ≡ false
unfolding class_of wall_class
c-is-column k m e = grind (arith)

module _ (walls : WallCondition) (k : ℕ) (m n : MemberCase) (s : AtLeastAsSevereIn walls k m n) where
  same-wall : is_wall m ≡ is_wall n
  same-wall = rw (s.long, s.short)

  pub worse : Worse m n
  worse = search arith

  not-to-c : n.strengthened ≡ 1 → class_of k n ≡ ColumnC → class_of k m ≡ ColumnC
  not-to-c e c = s.strengthened-c (c-is-column k n c) e c

  -- walls carry the same V, and no column less
  pub wall-shear-same : wall_shear m ≡ wall_shear n
  wall-shear-same = grind (arith, s.wall-shear, same-wall)

  pub shear-kept : m.case.shear ≤ n.case.shear
  shear-kept = grind (arith, s.wall-shear, s.column-shear)

  module _ (set : LimitSet) (good : ordered_set set ≡ true) (pos : 0 < k) (vm : Valid m) (vn : Valid n) where
    pub nd-kept : (axial_ratio_d m).0 ≤ (axial_ratio_d n).0
    nd-kept = nd-worse set good k pos m n vm vn worse

    fallen : LimitsFall walls set → Fallen set k m n
    fallen falls = grind (arith, falls k m n pos vm vn s, columns-fall set good k pos m n vm vn worse, not-to-c)

    pub over-kept : LimitsFall walls set → (met : Bool) → is_over set k met m ≡ true → is_over set k met n ≡ true
    over-kept falls met e = over-stays set k pos m n vn worse met (fallen falls) e

-- "every wall has its partner's class", by any set in order
pub same_class : (set : LimitSet) → ordered_set set ≡ true → LimitsFall SameClass set
same_class set good k m n pos vm vn s w =
    let l = same-class-falls set good k pos m n vm vn (worse SameClass k m n s) (s.wall-class w) in (l.moment, l.rotation)
