-- A value between rows is a mean of their limits: it is within what bounds them, whatever the table. So no product of the code wraps.
use Prim.Native.Nat.{ℕ, ◌+◌, ◌-◌, ◌*◌, ◌≤◌, ◌<◌}
use native.Mathlib.Nat.{le_trans, mul-le-mul_right, mul-pos}
use native.Mathlib.Decide.{dec_le}
use native.Mathlib.Omega.{arith}
use mathlib.Core.List.{List, [], ◌∷◌}
use mathlib.Core.Path.{◌≡◌}
use mathlib.Core.Bool.{Bool, true, false, ◌&&◌}
use lib.Dec.{eqb}
use Rattle.records.specs.Notation.{pick}
use Rattle.members.specs.declared.class.Class.{Class}
use Rattle.members.specs.declared.class.Class.TheVariants.{ColumnA, ColumnB, ColumnC, WallA, WallB}
use Rattle.members.specs.declared.limits.Row.{Row}
use Rattle.members.specs.declared.limits.Fraction.{Fraction}
use Rattle.std.proofs.Common.{slice_index}
use Rattle.members.specs.declared.tables.Places.{Places}
use Rattle.members.specs.declared.tables.Table.{Table}
use Rattle.members.specs.Tables.{two}
use Rattle.members.specs.Limits.{interp, row_limit, segment, blend, gap, clamp, per, column_a, column_b, column_c, wall_rows, wall_b, exact, quarters}
use Rattle.members.specs.Sizes.{Places2, Most2, Most4, SizedPlaces, SizedTable, Mean}
use Rattle.members.proofs.Arithmetic.{product}
use Rattle.members.proofs.Interpolation.{up_to, inside, past, alone}

-- a mean over one direction
record Within (most : ℕ) (f : Fraction) : Type 0 where
  positive : 0 < f.den
  den : f.den ≤ 200_000
  mean : f.num ≤ most * f.den

-- rows at rising places, with limits of at most so much
data Rows (most : ℕ) : Row → List Row → Type 0 where
  end : {p : Row} → p.limit ≤ most → Rows most p []
  step : {p q : Row} {ps : List Row} → p.limit ≤ most → p.at < q.at → q.at ≤ 200_000 → Rows most q ps → Rows most p (q ∷ ps)

first-limit : {most : ℕ} {p : Row} {ps : List Row} → Rows most p ps → p.limit ≤ most
first-limit (end h) = h
first-limit (step h a b r) = h

row-limit-within : {most : ℕ} (p : Row) → p.limit ≤ most → Within most (row_limit p)
row-limit-within p h = record { positive = omega arith; den = omega arith; mean = omega arith }

segment-within : {most : ℕ} (p q : Row) (x : ℕ) → p.limit ≤ most → q.limit ≤ most → p.at < x → x ≤ q.at → q.at ≤ 200_000 → Within most (segment p q x)
segment-within {most} p q x h k l r s =
    let e : q.at - p.at ≡ (q.at - x) + (x - p.at) = omega arith in
    record {
      positive = omega arith;
      den = omega arith;
      mean = rw e (omega (arith, mul-le-mul_right (q.at - x) h, mul-le-mul_right (x - p.at) k));
    }

interp-within : {most : ℕ} {p : Row} {ps : List Row} → Rows most p ps → (x : ℕ) → Within most (interp p ps x)
interp-within {most} {p} (end h) x = rw alone (row-limit-within p h)
interp-within {most} {p} (step {q = q} {ps = ps} h a b r) x = go (dec_le x p.at) (dec_le x q.at) (interp-within r x)
  where
    go : Dec (x ≤ p.at) → Dec (x ≤ q.at) → Within most (interp q ps x) → Within most (interp p (q ∷ ps) x)
    go (yes c) d i = rw (up_to p q ps x c) (row-limit-within p h)
    go (no c) (yes d) i = rw (inside p q ps x (omega arith) d) (segment-within p q x h (first-limit r) (omega arith) d b)
    go (no c) (no d) i = rw (past p q ps x (omega arith) (omega arith)) i

blend-within : {most : ℕ} (at y : List ℕ) (x : ℕ) → Places2 at → Most2 most y → blend at y x ≤ most * gap at
unfolding blend
blend-within {most} at y x a m =
    let e : gap at ≡ (slice_index at 1 - clamp at x) + (clamp at x - slice_index at 0) = omega (arith, a.first) in
    rw e (omega (arith, mul-le-mul_right (slice_index at 1 - clamp at x) m.r1, mul-le-mul_right (clamp at x - slice_index at 0) m.r2))

-- limits of at most so much are of at most more
raised2 : {most more : ℕ} {t : List ℕ} → most ≤ more → Most2 most t → Most2 more t
raised2 h m = record { r1 = le_trans m.r1 h; r2 = le_trans m.r2 h }

raised4 : {most more : ℕ} {f : List ℕ} → most ≤ more → Most4 most f → Most4 more f
raised4 h m = record { r1 = le_trans m.r1 h; r2 = le_trans m.r2 h; r3 = le_trans m.r3 h; r4 = le_trans m.r4 h }

pub raised : {most more : ℕ} {t : Table} → most ≤ more → SizedTable most t → SizedTable more t
raised h s =
    record {
      a = raised4 h s.a;
      b1 = raised4 h s.b1;
      b2 = raised4 h s.b2;
      c = raised2 h s.c;
      zone1 = raised2 h s.zone1;
      zone2 = raised2 h s.zone2;
      plain1 = raised2 h s.plain1;
      plain2 = raised2 h s.plain2;
      wall = raised2 h s.wall;
    }

-- one direction, and two
one_way : {most : ℕ} {f : Fraction} → Within most f → Mean most f
one_way w = record { positive = w.positive; den = omega (arith, w.den); mean = w.mean }

two-way : {most : ℕ} (at : List ℕ) {f : Fraction} → Places2 at → Within (most * gap at) f → Mean most (per (gap at) f)
two-way {most} at {f} a w =
    record {
      positive = mul-pos w.positive (omega (arith, a.first));
      den = omega (arith, product 200_000 200_000 {b = gap at} w.den (omega (arith, a.most)));
      mean = omega (arith, w.mean);
    }

module _ {most : ℕ} (p : Places) (t : Table) (sp : SizedPlaces p) (st : SizedTable most t) where
  column-a : (n : ℕ) → Mean most (column_a p t n)
  unfolding column_a
  column-a n =
      let a = sp.axial in
      one_way
      (interp-within
      (step st.a.r1 a.first (omega (arith, a.second, a.third, a.most))
      (step st.a.r2 a.second (omega (arith, a.third, a.most)) (step st.a.r3 a.third a.most (end st.a.r4))))
      n)

  at_row : {y1 y2 : ℕ} (ρ : ℕ) → y1 ≤ most → y2 ≤ most → blend p.hoops (two y1 y2) ρ ≤ most * gap p.hoops
  at_row {y1} {y2} ρ h k = blend-within p.hoops (two y1 y2) ρ sp.hoops (record { r1 = h; r2 = k })

  column-b : (n ρ : ℕ) → Mean most (column_b p t n ρ)
  unfolding column_b
  column-b n ρ =
      let a = sp.axial in
      two-way p.hoops sp.hoops
      (interp-within
      (step (at_row ρ st.b1.r1 st.b2.r1) a.first (omega (arith, a.second, a.third, a.most))
      (step (at_row ρ st.b1.r2 st.b2.r2) a.second (omega (arith, a.third, a.most))
      (step (at_row ρ st.b1.r3 st.b2.r3) a.third a.most (end (at_row ρ st.b1.r4 st.b2.r4)))))
      n)

  column-c : (n : ℕ) → Mean most (column_c p t n)
  unfolding column_c
  column-c n = one_way (interp-within (step st.c.r1 sp.axial.third sp.axial.most (end st.c.r2)) n)

  wall-rows : (y1 y2 : List ℕ) → Most2 most y1 → Most2 most y2 → (n v : ℕ) → Mean most (wall_rows p y1 y2 n v)
  unfolding wall_rows
  wall-rows y1 y2 h k n v =
      two-way p.stress sp.stress
      (interp-within
      (step (blend-within p.stress y1 v sp.stress h) sp.walls.first sp.walls.most (end (blend-within p.stress y2 v sp.stress k)))
      n)

  wall-a : (z : Bool) (n v : ℕ) → Mean most (pick z (wall_rows p t.zone1 t.zone2 n v) (wall_rows p t.plain1 t.plain2 n v))
  wall-a true n v = wall-rows t.zone1 t.zone2 st.zone1 st.zone2 n v
  wall-a false n v = wall-rows t.plain1 t.plain2 st.plain1 st.plain2 n v

  wall-b : (v : ℕ) → Mean most (wall_b p t v)
  unfolding wall_b
  wall-b v = one_way (interp-within (step st.wall.r1 sp.stress.first sp.stress.most (end st.wall.r2)) v)

  -- the limit of any class is a mean of limits
  pub exact-mean : (class : Class) (zone n v ρ : ℕ) → Mean most (exact p t class zone n v ρ)
  exact-mean ColumnA zone n v ρ = column-a n
  exact-mean ColumnB zone n v ρ = column-b n ρ
  exact-mean ColumnC zone n v ρ = column-c n
  exact-mean WallA zone n v ρ = wall-a (eqb zone 1) n v
  exact-mean WallB zone n v ρ = wall-b v

cut : (b : Bool) (q : ℕ) → q ≤ 4 → pick b q 4 ≤ 4
cut true q h = h
cut false q h = omega arith

pub quarters_most : (class : Class) (strengthened annex_e : ℕ) → quarters class strengthened annex_e ≤ 4
quarters_most ColumnA s e = cut (eqb s 1) 3 (omega arith)
quarters_most ColumnB s e = cut (eqb s 1) 3 (omega arith)
quarters_most ColumnC s e = omega arith
quarters_most WallA s e = omega arith
quarters_most WallB s e = cut (eqb s 1 && eqb e 0) 2 (omega arith)
