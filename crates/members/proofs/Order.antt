-- The order of limits, for every set that meets the order conditions: a limit never rises with n or v, never falls with ρ, and column classes are in order.
use Prim.Native.Nat.{ℕ, zero, suc, ◌*◌, ◌≤◌, ◌<◌}
use native.Mathlib.Nat.{mul-le-mul, mul-le-mul_left, mul-pos, mul_assoc}
use native.Mathlib.Omega.{arith}
use mathlib.Core.Bool.{Bool, true, false, ◌&&◌}
use mathlib.Core.List.{List, [], ◌∷◌}
use mathlib.Core.Path.{◌≡◌, refl}
use lib.Dec.{eqb}
use lib.ListN.{get_or}
use borrow.Author.Tests.{leb-true, ltb-true, eqb-true}
use Rattle.records.proofs.Below.{and_left, and_right}
use Rattle.records.specs.Notation.{pick}
use Rattle.members.specs.declared.class.Class.{Class}
use Rattle.members.specs.declared.class.Class.TheVariants.{ColumnA, ColumnB, ColumnC, WallA, WallB}
use Rattle.members.specs.declared.limits.Fraction.{Fraction}
use Rattle.std.proofs.Common.{slice_index}
use Rattle.members.specs.declared.tables.Places.{Places}
use Rattle.members.specs.declared.tables.Table.{Table}
use Rattle.members.specs.declared.tables.LimitSet.{LimitSet}
use Rattle.members.specs.Tables.{two, published, places, moments, rotations}
use Rattle.members.specs.Ordered.{all_hold, places_rise, ordered, ordered_set}
use Rattle.members.specs.Limits.{row, interp, blend, gap, per, column_a, column_b, column_c, wall_rows, wall_b, exact, quarters, m_limit_at, rotation_limit_at}
use Rattle.members.proofs.Fractions.{◌⊑◌, ⊑_trans, per-mono, share-mono}
use Rattle.members.proofs.Falling.{Falling, end, step, positive, falls, Below, last, more, Times, under, padded, blend-values, blend-falls, blend-rises, blend-least, blend-most}

-- the published set meets the conditions
pub published-ordered : ordered_set published ≡ true
unfolding all_hold places_rise ordered places moments rotations
published-ordered = refl

-- one of the tests
one : (bs : List Bool) → all_hold bs ≡ true → (i : ℕ) → get_or bs i true ≡ true
unfolding all_hold
one [] e i = refl
one (b ∷ bs) e zero = and_left b (all_hold bs) e
one (b ∷ bs) e (suc i) = one bs (and_right b (all_hold bs) e) i

-- the conditions as facts
pub record Rising (p : Places) : Type 0 where
  pub axial1 : slice_index p.axial 0 < slice_index p.axial 1
  pub axial2 : slice_index p.axial 1 < slice_index p.axial 2
  pub axial3 : slice_index p.axial 2 < slice_index p.axial 3
  pub hoops : slice_index p.hoops 0 < slice_index p.hoops 1
  pub walls : slice_index p.walls 0 < slice_index p.walls 1
  pub stress : slice_index p.stress 0 < slice_index p.stress 1

pub rising-facts : (p : Places) → places_rise p ≡ true → Rising p
unfolding places_rise
rising-facts p e =
    record {
      axial1 = ltb-true _ _ (one _ e 0);
      axial2 = ltb-true _ _ (one _ e 1);
      axial3 = ltb-true _ _ (one _ e 2);
      hoops = ltb-true _ _ (one _ e 3);
      walls = ltb-true _ _ (one _ e 4);
      stress = ltb-true _ _ (one _ e 5);
    }

pub record Falls4 (f : List ℕ) : Type 0 where
  pub first : slice_index f 1 ≤ slice_index f 0
  pub second : slice_index f 2 ≤ slice_index f 1
  pub third : slice_index f 3 ≤ slice_index f 2

pub record Under4 (f g : List ℕ) : Type 0 where
  pub r1 : slice_index f 0 ≤ slice_index g 0
  pub r2 : slice_index f 1 ≤ slice_index g 1
  pub r3 : slice_index f 2 ≤ slice_index g 2
  pub r4 : slice_index f 3 ≤ slice_index g 3

-- two rows of two limits: over stress, and over axial load
pub record Falls22 (y1 y2 : List ℕ) : Type 0 where
  pub first : slice_index y1 1 ≤ slice_index y1 0
  pub second : slice_index y2 1 ≤ slice_index y2 0
  pub low : slice_index y2 0 ≤ slice_index y1 0
  pub high : slice_index y2 1 ≤ slice_index y1 1

pub record Ordered (t : Table) : Type 0 where
  pub a : Falls4 t.a
  pub b1 : Falls4 t.b1
  pub b2 : Falls4 t.b2
  pub c : slice_index t.c 1 ≤ slice_index t.c 0
  pub hoops : Under4 t.b1 t.b2
  pub b-a : Under4 t.b2 t.a
  pub c-b3 : slice_index t.c 0 ≤ slice_index t.b1 2
  pub c-b4 : slice_index t.c 1 ≤ slice_index t.b1 3
  pub zone : Falls22 t.zone1 t.zone2
  pub plain : Falls22 t.plain1 t.plain2
  pub wall : slice_index t.wall 1 ≤ slice_index t.wall 0

pub ordered-facts : (t : Table) → ordered t ≡ true → Ordered t
unfolding ordered
ordered-facts t e =
    record {
      a = record { first = leb-true _ _ (one _ e 0); second = leb-true _ _ (one _ e 1); third = leb-true _ _ (one _ e 2) };
      b1 = record { first = leb-true _ _ (one _ e 3); second = leb-true _ _ (one _ e 4); third = leb-true _ _ (one _ e 5) };
      b2 = record { first = leb-true _ _ (one _ e 6); second = leb-true _ _ (one _ e 7); third = leb-true _ _ (one _ e 8) };
      c = leb-true _ _ (one _ e 9);
      hoops =
          record {
            r1 = leb-true _ _ (one _ e 10);
            r2 = leb-true _ _ (one _ e 11);
            r3 = leb-true _ _ (one _ e 12);
            r4 = leb-true _ _ (one _ e 13);
          };
      b-a =
          record {
            r1 = leb-true _ _ (one _ e 14);
            r2 = leb-true _ _ (one _ e 15);
            r3 = leb-true _ _ (one _ e 16);
            r4 = leb-true _ _ (one _ e 17);
          };
      c-b3 = leb-true _ _ (one _ e 18);
      c-b4 = leb-true _ _ (one _ e 19);
      zone =
          record {
            first = leb-true _ _ (one _ e 20);
            second = leb-true _ _ (one _ e 21);
            low = leb-true _ _ (one _ e 22);
            high = leb-true _ _ (one _ e 23);
          };
      plain =
          record {
            first = leb-true _ _ (one _ e 24);
            second = leb-true _ _ (one _ e 25);
            low = leb-true _ _ (one _ e 26);
            high = leb-true _ _ (one _ e 27);
          };
      wall = leb-true _ _ (one _ e 28);
    }

-- rows at one place, one of them lower
same_place : {at y z : ℕ} → y ≤ z → Below 1 1 (row at y) (row at z)
same_place h = record { place = refl; limit = omega arith }

plainly : {f g : Fraction} → Times 1 1 f g → f ⊑ g
plainly t = record { cross = omega (arith, t.cross) }

module _ (p : Places) (t : Table) (pl : Rising p) (o : Ordered t) where
  -- column A
  a-rows : Falling (row (slice_index p.axial 0) (slice_index t.a 0)) (row (slice_index p.axial 1) (slice_index t.a 1) ∷ row (slice_index p.axial 2) (slice_index t.a 2) ∷ row (slice_index p.axial 3) (slice_index t.a 3) ∷ [])
  a-rows = step pl.axial1 o.a.first (step pl.axial2 o.a.second (step pl.axial3 o.a.third end))

  a-falls : (n n' : ℕ) → n ≤ n' → column_a p t n' ⊑ column_a p t n
  unfolding column_a
  a-falls n n' l = falls a-rows n n' l

  a-positive : (n : ℕ) → 0 < (column_a p t n).den
  unfolding column_a
  a-positive n = positive a-rows n

  -- column B
  b-rows : (ρ : ℕ) → Falling (row (slice_index p.axial 0) (blend p.hoops (two (slice_index t.b1 0) (slice_index t.b2 0)) ρ)) (row (slice_index p.axial 1) (blend p.hoops (two (slice_index t.b1 1) (slice_index t.b2 1)) ρ) ∷ row (slice_index p.axial 2) (blend p.hoops (two (slice_index t.b1 2) (slice_index t.b2 2)) ρ) ∷ row (slice_index p.axial 3) (blend p.hoops (two (slice_index t.b1 3) (slice_index t.b2 3)) ρ) ∷ [])
  b-rows ρ =
      step pl.axial1 (blend-values p.hoops (two (slice_index t.b1 1) (slice_index t.b2 1)) (two (slice_index t.b1 0) (slice_index t.b2 0)) ρ o.b1.first o.b2.first)
      (step pl.axial2 (blend-values p.hoops (two (slice_index t.b1 2) (slice_index t.b2 2)) (two (slice_index t.b1 1) (slice_index t.b2 1)) ρ o.b1.second o.b2.second)
      (step pl.axial3 (blend-values p.hoops (two (slice_index t.b1 3) (slice_index t.b2 3)) (two (slice_index t.b1 2) (slice_index t.b2 2)) ρ o.b1.third o.b2.third) end))

  b-falls : (n n' ρ : ℕ) → n ≤ n' → column_b p t n' ρ ⊑ column_b p t n ρ
  unfolding column_b
  b-falls n n' ρ l = per-mono (gap p.hoops) (falls (b-rows ρ) n n' l)

  b-positive : (n ρ : ℕ) → 0 < (column_b p t n ρ).den
  unfolding column_b
  b-positive n ρ = mul-pos (positive (b-rows ρ) n) (omega (arith, pl.hoops))

  b-rises : (n ρ ρ' : ℕ) → ρ' ≤ ρ → column_b p t n ρ' ⊑ column_b p t n ρ
  unfolding column_b
  b-rises n ρ ρ' l =
      per-mono (gap p.hoops)
      (plainly (under 1 1 (more (at o.hoops.r1) (at o.hoops.r2) (more (at o.hoops.r2) (at o.hoops.r3) (more (at o.hoops.r3) (at o.hoops.r4) (last (at o.hoops.r4))))) n))
    where
      at : {place y1 y2 : ℕ} → y1 ≤ y2 → Below 1 1 (row place (blend p.hoops (two y1 y2) ρ')) (row place (blend p.hoops (two y1 y2) ρ))
      at {place} {y1} {y2} h = same_place (blend-rises p.hoops (two y1 y2) ρ' ρ pl.hoops l h)

  -- B is nowhere above A
  pub b-a : (n ρ : ℕ) → column_b p t n ρ ⊑ column_a p t n
  unfolding column_a column_b
  b-a n ρ =
      of
      (under 1 (gap p.hoops)
      (more (at o.hoops.r1 o.b-a.r1) (at o.hoops.r2 o.b-a.r2)
      (more (at o.hoops.r2 o.b-a.r2) (at o.hoops.r3 o.b-a.r3)
      (more (at o.hoops.r3 o.b-a.r3) (at o.hoops.r4 o.b-a.r4) (last (at o.hoops.r4 o.b-a.r4)))))
      n)
    where
      at : {place y1 y2 z : ℕ} → y1 ≤ y2 → y2 ≤ z → Below 1 (gap p.hoops) (row place (blend p.hoops (two y1 y2) ρ)) (row place z)
      at {place} {y1} {y2} {z} h k =
          record {
            place = refl;
            limit = omega (arith, blend-most p.hoops (two y1 y2) ρ pl.hoops h, mul-le-mul_left (gap p.hoops) k);
          }

      of : {e f : Fraction} → Times 1 (gap p.hoops) e f → per (gap p.hoops) e ⊑ f
      of i = record { cross = omega (arith, i.cross) }

  -- column C
  c-rows : Falling (row (slice_index p.axial 2) (slice_index t.c 0)) (row (slice_index p.axial 3) (slice_index t.c 1) ∷ [])
  c-rows = step pl.axial3 o.c end

  c-falls : (n n' : ℕ) → n ≤ n' → column_c p t n' ⊑ column_c p t n
  unfolding column_c
  c-falls n n' l = falls c-rows n n' l

  c-positive : (n : ℕ) → 0 < (column_c p t n).den
  unfolding column_c
  c-positive n = positive c-rows n

  -- C is nowhere above B: its first limit holds at the rows before
  pub c-b : (n ρ : ℕ) → column_c p t n ⊑ column_b p t n ρ
  unfolding column_c column_b
  c-b n ρ =
      let r1 = row (slice_index p.axial 0) (slice_index t.c 0) in
      let r2 = row (slice_index p.axial 1) (slice_index t.c 0) in
      let r3 = row (slice_index p.axial 2) (slice_index t.c 0) in
      let r4 = row (slice_index p.axial 3) (slice_index t.c 1) in
      let f2 : Falling r2 (r3 ∷ r4 ∷ []) = step {p = r2} {q = r3} pl.axial2 (omega arith) c-rows in
      let f1 : Falling r1 (r2 ∷ r3 ∷ r4 ∷ []) = step {p = r1} {q = r2} pl.axial1 (omega arith) f2 in
      ⊑_trans (interp r3 (r4 ∷ []) n) (interp r2 (r3 ∷ r4 ∷ []) n) _ (positive f2 n) (padded r2 r3 (r4 ∷ []) pl.axial2 refl n)
      (⊑_trans (interp r2 (r3 ∷ r4 ∷ []) n) (interp r1 (r2 ∷ r3 ∷ r4 ∷ []) n) _ (positive f1 n) (padded r1 r2 (r3 ∷ r4 ∷ []) pl.axial1 refl n)
      (of
      (under (gap p.hoops) 1
      (more (at o.hoops.r1 (omega (arith, o.c-b3, o.b1.second, o.b1.first))) (at o.hoops.r2 (omega (arith, o.c-b3, o.b1.second)))
      (more (at o.hoops.r2 (omega (arith, o.c-b3, o.b1.second))) (at o.hoops.r3 o.c-b3)
      (more (at o.hoops.r3 o.c-b3) (at o.hoops.r4 o.c-b4) (last (at o.hoops.r4 o.c-b4)))))
      n)))
    where
      at : {place y1 y2 z : ℕ} → y1 ≤ y2 → z ≤ y1 → Below (gap p.hoops) 1 (row place z) (row place (blend p.hoops (two y1 y2) ρ))
      at {place} {y1} {y2} {z} h k =
          record {
            place = refl;
            limit = omega (arith, blend-least p.hoops (two y1 y2) ρ pl.hoops h, mul-le-mul_left (gap p.hoops) k);
          }

      of : {e f : Fraction} → Times (gap p.hoops) 1 e f → e ⊑ per (gap p.hoops) f
      of i = record { cross = omega (arith, i.cross) }

  -- walls
  wall-rows : (y1 y2 : List ℕ) (v : ℕ) → Falls22 y1 y2 → Falling (row (slice_index p.walls 0) (blend p.stress y1 v)) (row (slice_index p.walls 1) (blend p.stress y2 v) ∷ [])
  wall-rows y1 y2 v f = step pl.walls (blend-values p.stress y2 y1 v f.low f.high) end

  rows-fall : (y1 y2 : List ℕ) → Falls22 y1 y2 → (n n' v v' : ℕ) → n ≤ n' → v ≤ v' → wall_rows p y1 y2 n' v' ⊑ wall_rows p y1 y2 n v
  unfolding wall_rows
  rows-fall y1 y2 f n n' v v' l k =
      per-mono (gap p.stress)
      (⊑_trans _ _ _ (positive (wall-rows y1 y2 v' f) n) (falls (wall-rows y1 y2 v' f) n n' l)
      (plainly (under 1 1 (more (at y1 f.first) (at y2 f.second) (last (at y2 f.second))) n)))
    where
      at : {place : ℕ} (y : List ℕ) → slice_index y 1 ≤ slice_index y 0 → Below 1 1 (row place (blend p.stress y v')) (row place (blend p.stress y v))
      at {place} y h = same_place (blend-falls p.stress y v v' pl.stress k h)

  rows-positive : (y1 y2 : List ℕ) → Falls22 y1 y2 → (n v : ℕ) → 0 < (wall_rows p y1 y2 n v).den
  unfolding wall_rows
  rows-positive y1 y2 f n v = mul-pos (positive (wall-rows y1 y2 v f) n) (omega (arith, pl.stress))

  wall-a-falls : (z : Bool) (n n' v v' : ℕ) → n ≤ n' → v ≤ v' → pick z (wall_rows p t.zone1 t.zone2 n' v') (wall_rows p t.plain1 t.plain2 n' v') ⊑ pick z (wall_rows p t.zone1 t.zone2 n v) (wall_rows p t.plain1 t.plain2 n v)
  wall-a-falls true n n' v v' l k = rows-fall t.zone1 t.zone2 o.zone n n' v v' l k
  wall-a-falls false n n' v v' l k = rows-fall t.plain1 t.plain2 o.plain n n' v v' l k

  wall-a-positive : (z : Bool) (n v : ℕ) → 0 < (pick z (wall_rows p t.zone1 t.zone2 n v) (wall_rows p t.plain1 t.plain2 n v)).den
  wall-a-positive true n v = rows-positive t.zone1 t.zone2 o.zone n v
  wall-a-positive false n v = rows-positive t.plain1 t.plain2 o.plain n v

  wall-b-rows : Falling (row (slice_index p.stress 0) (slice_index t.wall 0)) (row (slice_index p.stress 1) (slice_index t.wall 1) ∷ [])
  wall-b-rows = step pl.stress o.wall end

  wall-b-falls : (v v' : ℕ) → v ≤ v' → wall_b p t v' ⊑ wall_b p t v
  unfolding wall_b
  wall-b-falls v v' l = falls wall-b-rows v v' l

  wall-b-positive : (v : ℕ) → 0 < (wall_b p t v).den
  unfolding wall_b
  wall-b-positive v = positive wall-b-rows v

  pub exact-positive : (k : Class) (zone n v ρ : ℕ) → 0 < (exact p t k zone n v ρ).den
  exact-positive ColumnA zone n v ρ = a-positive n
  exact-positive ColumnB zone n v ρ = b-positive n ρ
  exact-positive ColumnC zone n v ρ = c-positive n
  exact-positive WallA zone n v ρ = wall-a-positive (eqb zone 1) n v
  exact-positive WallB zone n v ρ = wall-b-positive v

-- a class that allows no more: a column's moves from A to B to C, a wall keeps its own
pub data Later : Class → Class → Type 0 where
  same : {k : Class} → Later k k
  a-then-b : Later ColumnA ColumnB
  a-then-c : Later ColumnA ColumnC
  b-then-c : Later ColumnB ColumnC

-- the ratios of a member and of a worse one
pub record Ratios≤ (n n' v v' ρ ρ' : ℕ) : Type 0 where
  pub axial : n ≤ n'
  pub stress : v ≤ v'
  pub hoops : ρ' ≤ ρ

module _ (p : Places) (t : Table) (pl : Rising p) (o : Ordered t) {n n' v v' ρ ρ' : ℕ} (r : Ratios≤ n n' v v' ρ ρ') where
  -- with the class kept: a limit never rises with n or v and never falls with ρ
  pub exact-falls : (k : Class) (zone : ℕ) → exact p t k zone n' v' ρ' ⊑ exact p t k zone n v ρ
  exact-falls ColumnA zone = a-falls p t pl o n n' r.axial
  exact-falls ColumnB zone =
      ⊑_trans _ (column_b p t n ρ') _ (b-positive p t pl o n ρ') (b-falls p t pl o n n' ρ' r.axial) (b-rises p t pl o n ρ ρ' r.hoops)
  exact-falls ColumnC zone = c-falls p t pl o n n' r.axial
  exact-falls WallA zone = wall-a-falls p t pl o (eqb zone 1) n n' v v' r.axial r.stress
  exact-falls WallB zone = wall-b-falls p t pl o v v' r.stress

  -- and with a later class
  pub exact-later : {k k' : Class} → Later k k' → (zone : ℕ) → exact p t k' zone n' v' ρ' ⊑ exact p t k zone n v ρ
  exact-later {k} same zone = exact-falls k zone
  exact-later a-then-b zone = ⊑_trans _ (column_b p t n ρ) _ (b-positive p t pl o n ρ) (exact-falls ColumnB zone) (b-a p t pl o n ρ)
  exact-later a-then-c zone =
      ⊑_trans _ (column_c p t n) _ (c-positive p t pl o n) (exact-falls ColumnC zone)
      (⊑_trans _ (column_b p t n ρ) _ (b-positive p t pl o n ρ) (c-b p t pl o n ρ) (b-a p t pl o n ρ))
  exact-later b-then-c zone = ⊑_trans _ (column_c p t n) _ (c-positive p t pl o n) (exact-falls ColumnC zone) (c-b p t pl o n ρ)

kept : (b : Bool) → (b ≡ true → ⊥) → 4 ≤ pick b 3 4
kept true h = absurd (h refl)
kept false h = omega arith

-- 3/4 applies to both or to neither, unless a strengthened column comes to C
quarters-later : {k k' : Class} → Later k k' → (strengthened annex_e : ℕ) → (strengthened ≡ 1 → k' ≡ ColumnC → k ≡ ColumnC) → quarters k' strengthened annex_e ≤ quarters k strengthened annex_e
quarters-later same st ae h = omega arith
quarters-later a-then-b st ae h = omega arith
quarters-later a-then-c st ae h = kept (eqb st 1) (λ e. apart (h (eqb-true st 1 e) refl))
  where
    apart : ColumnA ≡ ColumnC → ⊥
    apart e = let z : ◌≡◌ {A = ℕ} 0 1 = cc in omega arith
quarters-later b-then-c st ae h = kept (eqb st 1) (λ e. apart (h (eqb-true st 1 e) refl))
  where
    apart : ColumnB ≡ ColumnC → ⊥
    apart e = let z : ◌≡◌ {A = ℕ} 0 1 = cc in omega arith

module _ (s : LimitSet) (e : ordered_set s ≡ true) {n n' v v' ρ ρ' : ℕ} (r : Ratios≤ n n' v v' ρ ρ') {k k' : Class} (l : Later k k') (zone st ae : ℕ) (h : st ≡ 1 → k' ≡ ColumnC → k ≡ ColumnC) where
  rows : Rising s.places
  rows = rising-facts s.places (and_left (places_rise s.places) (ordered s.m && ordered s.rotation) e)

  both : (ordered s.m && ordered s.rotation) ≡ true
  both = and_right (places_rise s.places) (ordered s.m && ordered s.rotation) e

  m-order : Ordered s.m
  m-order = ordered-facts s.m (and_left (ordered s.m) (ordered s.rotation) both)

  rotation-order : Ordered s.rotation
  rotation-order = ordered-facts s.rotation (and_right (ordered s.m) (ordered s.rotation) both)

  -- a worse member's limit of m is at most the other's
  pub m-falls : (m_limit_at s k' zone st ae n' v' ρ').0 ≤ (m_limit_at s k zone st ae n v ρ).0
  unfolding m_limit_at
  m-falls =
      share-mono (exact s.places s.m k' zone n' v' ρ') (exact s.places s.m k zone n v ρ) (quarters k' st ae) (quarters k st ae) 4
      (exact-positive s.places s.m rows m-order k' zone n' v' ρ')
      (exact-positive s.places s.m rows m-order k zone n v ρ)
      (omega arith)
      (quarters-later l st ae h)
      (exact-later s.places s.m rows m-order r l zone)

  -- and so is that of the rotation, at a factor of at most as much
  pub rotation-falls : (factor factor' : ℕ) → factor' ≤ factor → (rotation_limit_at s k' zone st ae factor' n' v' ρ').0 ≤ (rotation_limit_at s k zone st ae factor n v ρ).0
  unfolding rotation_limit_at
  rotation-falls factor factor' m =
      let f = exact s.places s.rotation k' zone n' v' ρ' in
      let g = exact s.places s.rotation k zone n v ρ in
      simp mul_assoc
      (share-mono f g (quarters k' st ae * factor') (quarters k st ae * factor) 400
      (exact-positive s.places s.rotation rows rotation-order k' zone n' v' ρ')
      (exact-positive s.places s.rotation rows rotation-order k zone n v ρ)
      (omega arith)
      (mul-le-mul (quarters-later l st ae h) m)
      (exact-later s.places s.rotation rows rotation-order r l zone))
