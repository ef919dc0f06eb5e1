-- A wall that passes from A to B: where its axial ratio is at most 0.2, no limit of class B is above that of class A with boundary zone.
use Prim.Native.Nat.{ℕ, ◌+◌, ◌-◌, ◌*◌, ◌≤◌, ◌<◌}
use native.Mathlib.Nat.{mul-le-mul, mul-le-mul_right, mul_assoc}
use native.Mathlib.Omega.{arith}
use mathlib.Core.Bool.{true, ◌&&◌}
use mathlib.Core.List.{[], ◌∷◌}
use mathlib.Core.Logic.{⊎_elim}
use mathlib.Core.Path.{◌≡◌, refl, ap}
use borrow.Author.Tests.{leb-true, ltb-true}
use Rattle.records.proofs.Below.{and_left, and_right}
use Rattle.records.specs.Valid.{Valid}
use Rattle.records.specs.declared.MemberCase.{MemberCase}
use Rattle.std.proofs.Common.{slice_index}
use Rattle.members.specs.declared.class.Class.TheVariants.{WallA, WallB}
use Rattle.members.specs.declared.tables.Places.{Places}
use Rattle.members.specs.declared.tables.Table.{Table}
use Rattle.members.specs.declared.tables.LimitSet.{LimitSet}
use Rattle.members.specs.Tables.{published, places, moments, rotations}
use Rattle.members.specs.Class.{class_of}
use Rattle.members.specs.Ordered.{ordered_set, places_rise, ordered}
use Rattle.members.specs.Limits.{row, interp, clamp, blend, gap, wall_rows, wall_b, exact, quarters, m_limit_at, rotation_limit_at}
use Rattle.members.specs.Finding.{axial_ratio, wall_stress, hoop_ratio, m_limit_of, rotation_limit_of}
use Rattle.members.proofs.Fractions.{◌⊑◌, ⊑_trans, share-mono}
use Rattle.members.proofs.Interpolation.{inside, blend-interp}
use Rattle.members.proofs.Means.{quarters_most}
use Rattle.members.proofs.Order.{Rising, rising-facts, Ordered, ordered-facts, published-ordered, exact-positive, exact-falls}
use Rattle.members.proofs.Rounding.{stress-mono}
use Rattle.members.proofs.Worse.{same-class-falls}
use Rattle.storeys.specs.Storey.{published_rules}
use Rattle.comparison.specs.Demand3.{AtLeastAsSevereIn}
use Rattle.comparison.specs.Orderly.{LimitsFall}
use Rattle.comparison.specs.WallsToB.{axial_most, PassesToB, WidenedBy, Widened, Demand3Widened, row_under_zone, table_under_zone, b_under_zone}
use Rattle.comparison.proofs.Partners.{worse}
use Rattle.comparison.proofs.Demand3.{demand3-by, published-orderly}

-- ---- one table: at the axial ratio x, between the two axial rows, and at any stress
-- weights a and b of the two rows of stress: what holds at each row holds of their mean
mean : (a b d e f w0 w1 y0 y1 z0 z1 : ℕ) → w0 * d ≤ y0 * e + z0 * f → w1 * d ≤ y1 * e + z1 * f → (w0 * a + w1 * b) * d ≤ (y0 * a + y1 * b) * e + (z0 * a + z1 * b) * f
mean a b d e f w0 w1 y0 y1 z0 z1 h k = omega (arith, mul-le-mul_right a h, mul-le-mul_right b k)

module _ (p : Places) (t : Table) (pl : Rising p) (x : ℕ) (from : slice_index p.walls 0 < x) (to : x ≤ slice_index p.walls 1) (rows : table_under_zone p t x ≡ true) where
  row1 : slice_index t.wall 0 * (slice_index p.walls 1 - slice_index p.walls 0) ≤ slice_index t.zone1 0 * (slice_index p.walls 1 - x) + slice_index t.zone2 0 * (x - slice_index p.walls 0)
  row1 = leb-true _ _ (and_left (row_under_zone p t x 0) (row_under_zone p t x 1) rows)

  row2 : slice_index t.wall 1 * (slice_index p.walls 1 - slice_index p.walls 0) ≤ slice_index t.zone1 1 * (slice_index p.walls 1 - x) + slice_index t.zone2 1 * (x - slice_index p.walls 0)
  row2 = leb-true _ _ (and_right (row_under_zone p t x 0) (row_under_zone p t x 1) rows)

  blends : (v : ℕ) → blend p.stress t.wall v * (slice_index p.walls 1 - slice_index p.walls 0) ≤ blend p.stress t.zone1 v * (slice_index p.walls 1 - x) + blend p.stress t.zone2 v * (x - slice_index p.walls 0)
  unfolding blend
  blends v =
      mean (slice_index p.stress 1 - clamp p.stress v) (clamp p.stress v - slice_index p.stress 0) (slice_index p.walls 1 - slice_index p.walls 0) (slice_index p.walls 1 - x) (x - slice_index p.walls 0)
      (slice_index t.wall 0) (slice_index t.wall 1) (slice_index t.zone1 0) (slice_index t.zone1 1) (slice_index t.zone2 0) (slice_index t.zone2 1) row1 row2

  -- class B is not above class A with boundary zone there
  b-under : (v : ℕ) → wall_b p t v ⊑ wall_rows p t.zone1 t.zone2 x v
  unfolding wall_b wall_rows
  b-under v =
      let b = interp (row (slice_index p.stress 0) (slice_index t.wall 0)) (row (slice_index p.stress 1) (slice_index t.wall 1) ∷ []) v in
      let d = slice_index p.walls 1 - slice_index p.walls 0 in
      let e = ap (λ z. z * d) (blend-interp p.stress t.wall v pl.stress) in
      let means = mul-le-mul_right b.den (blends v) in
      let cross : b.num * (d * gap p.stress) ≤ (blend p.stress t.zone1 v * (slice_index p.walls 1 - x) + blend p.stress t.zone2 v * (x - slice_index p.walls 0)) * b.den = omega (arith, e, means) in
      rw (inside (row (slice_index p.walls 0) (blend p.stress t.zone1 v)) (row (slice_index p.walls 1) (blend p.stress t.zone2 v)) [] x from to)
      (record { cross = cross })

-- ---- and up to it: the limit of class B at a stress that is not lower is at most that of class A
module _ (p : Places) (t : Table) (pl : Rising p) (o : Ordered t) (x : ℕ) (from : slice_index p.walls 0 < x) (to : x ≤ slice_index p.walls 1) (rows : table_under_zone p t x ≡ true) where
  up-to : (n v v' ρ ρ' n' : ℕ) → n ≤ x → v ≤ v' → exact p t WallB 1 n' v' ρ' ⊑ exact p t WallA 1 n v ρ
  up-to n v v' ρ ρ' n' h k =
      ⊑_trans _ (exact p t WallB 1 n' v ρ') _ (exact-positive p t pl o WallB 1 n' v ρ')
      (exact-falls p t pl o {n = n'} {n' = n'} {v = v} {v' = v'} {ρ = ρ'} {ρ' = ρ'} (record { axial = omega arith; stress = k; hoops = omega arith }) WallB 1)
      (⊑_trans _ (exact p t WallA 1 x v ρ) _ (exact-positive p t pl o WallA 1 x v ρ)
      (b-under p t pl x from to rows v)
      (exact-falls p t pl o {n = n} {n' = x} {v = v} {v' = v} {ρ = ρ} {ρ' = ρ} (record { axial = h; stress = omega arith; hoops = omega arith }) WallA 1))

-- ---- both limits of a set
module _ (s : LimitSet) (e : ordered_set s ≡ true) (x : ℕ) (test : b_under_zone s x ≡ true) where
  tests : ((slice_index s.places.walls 0 < x) × (x ≤ slice_index s.places.walls 1)) × (table_under_zone s.places s.m x ≡ true) × (table_under_zone s.places s.rotation x ≡ true)
  unfolding b_under_zone
  tests =
      let between = and_left _ (table_under_zone s.places s.m x && table_under_zone s.places s.rotation x) test in
      let both = and_right _ (table_under_zone s.places s.m x && table_under_zone s.places s.rotation x) test in
      ((ltb-true _ _ (and_left _ _ between), leb-true _ _ (and_right _ _ between)), and_left _ _ both, and_right _ _ both)

  rising : Rising s.places
  rising = rising-facts s.places (and_left (places_rise s.places) (ordered s.m && ordered s.rotation) e)

  m-order : Ordered s.m
  m-order = ordered-facts s.m (and_left (ordered s.m) (ordered s.rotation) (and_right (places_rise s.places) (ordered s.m && ordered s.rotation) e))

  rotation-order : Ordered s.rotation
  rotation-order = ordered-facts s.rotation (and_right (ordered s.m) (ordered s.rotation) (and_right (places_rise s.places) (ordered s.m && ordered s.rotation) e))

  module _ (st ae n n' v v' ρ ρ' : ℕ) (h : n ≤ x) (k : v ≤ v') where
    m-to-b : (m_limit_at s WallB 1 st ae n' v' ρ').0 ≤ (m_limit_at s WallA 1 st ae n v ρ).0
    unfolding m_limit_at
    m-to-b =
        share-mono (exact s.places s.m WallB 1 n' v' ρ') (exact s.places s.m WallA 1 n v ρ) (quarters WallB st ae) 4 4
        (exact-positive s.places s.m rising m-order WallB 1 n' v' ρ')
        (exact-positive s.places s.m rising m-order WallA 1 n v ρ)
        (omega arith)
        (quarters_most WallB st ae)
        (up-to s.places s.m rising m-order x tests.0.0 tests.0.1 tests.1 n v v' ρ ρ' n' h k)

    rotation-to-b : (factor factor' : ℕ) → factor' ≤ factor → (rotation_limit_at s WallB 1 st ae factor' n' v' ρ').0 ≤ (rotation_limit_at s WallA 1 st ae factor n v ρ).0
    unfolding rotation_limit_at
    rotation-to-b factor factor' m =
        let f = exact s.places s.rotation WallB 1 n' v' ρ' in
        let g = exact s.places s.rotation WallA 1 n v ρ in
        simp mul_assoc
        (share-mono f g (quarters WallB st ae * factor') (4 * factor) 400
        (exact-positive s.places s.rotation rising rotation-order WallB 1 n' v' ρ')
        (exact-positive s.places s.rotation rising rotation-order WallA 1 n v ρ)
        (omega arith)
        (mul-le-mul (quarters_most WallB st ae) m)
        (up-to s.places s.rotation rising rotation-order x tests.0.0 tests.0.1 tests.2 n v v' ρ ρ' n' h k))

-- ---- a wall and its partner
module _ (s : LimitSet) (e : ordered_set s ≡ true) (x : ℕ) (test : b_under_zone s x ≡ true) (k : ℕ) (m n : MemberCase) (vm : Valid m) (w : AtLeastAsSevereIn (WidenedBy x) k m n) (to : PassesToB x k m n) where
  stress-kept : (wall_stress m).0 ≤ (wall_stress n).0
  stress-kept = rw (← w.short, ← w.depth, ← w.fctm) (stress-mono m.short m.depth m.fctm w.ve vm.short-least vm.depth-least vm.fctm-least)

  passing-falls : ((m_limit_of s k n).0 ≤ (m_limit_of s k m).0) × ((rotation_limit_of s k n).0 ≤ (rotation_limit_of s k m).0)
  unfolding m_limit_of rotation_limit_of
  passing-falls =
      rw (to.from-a, to.to-b, ← w.zone, ← w.strengthened, ← w.annex-e, to.zone) (
        m-to-b s e x test m.strengthened m.annex_e (axial_ratio m).0 (axial_ratio n).0 (wall_stress m).0 (wall_stress n).0 (hoop_ratio m).0 (hoop_ratio n).0 to.axial stress-kept,
        rotation-to-b s e x test m.strengthened m.annex_e (axial_ratio m).0 (axial_ratio n).0 (wall_stress m).0 (wall_stress n).0 (hoop_ratio m).0 (hoop_ratio n).0 to.axial stress-kept m.factor n.factor w.factor,
      )

-- for every set in order of which class B is nowhere above class A with boundary zone up to x
pub widened-falls : (s : LimitSet) → ordered_set s ≡ true → (x : ℕ) → b_under_zone s x ≡ true → LimitsFall (WidenedBy x) s
widened-falls s e x test k m n pos vm vn w wall =
    ⊎_elim
    (λ (c : class_of k m ≡ class_of k n). let l = same-class-falls s e k pos m n vm vn (worse (WidenedBy x) k m n w) c in (l.moment, l.rotation))
    (λ (to : PassesToB x k m n). passing-falls s e x test k m n vm w to)
    (w.wall-class wall)

-- the published set is one, at 0.2
pub b-under-published : b_under_zone published axial_most ≡ true
unfolding b_under_zone places moments rotations
b-under-published = refl

-- N11
pub demand3-widened : Demand3Widened
demand3-widened = demand3-by Widened published_rules published-orderly (widened-falls published published-ordered axial_most b-under-published)
