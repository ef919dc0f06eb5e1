-- The limits of a class at n, v and ρ (document 01, "Member"): "linear between rows and constant outside", as an exact fraction.
use Rattle.std.specs.Prelude.{◌+◌, ◌-◌, ◌*◌, ◌&&◌, ◌∷◌, slice_index}
use Rattle.records.specs.Notation.{ℕ, zero, suc, min, max, List, [], leb, eqb, pick}
use Rattle.members.specs.Units.{Ratio, Microradians, ratio_steps, micro_steps}
use Rattle.members.specs.Class.{Class, ColumnA, ColumnB, ColumnC, WallA, WallB}
use Rattle.members.specs.Tables.{Places, Table, LimitSet, two, four}
use Rattle.members.specs.declared.limits.{Row.Row, Fraction.Fraction}

abbrev pub row : ℕ → ℕ → Row
row at limit = record { at = at; limit = limit }

-- the limit of a row, as it stands
abbrev pub row_limit : Row → Fraction
row_limit p = record { num = p.limit; den = 1 }

-- between two rows: the mean of their limits, each weighed by the distance to the other
abbrev pub segment : Row → Row → ℕ → Fraction
segment p q x = record { num = p.limit * (q.at - x) + q.limit * (x - p.at); den = q.at - p.at }

-- over the rows p and ps, of any table: constant up to the first and from the last, linear between neighbours
unfoldable pub interp : Row → List Row → ℕ → Fraction
interp p [] x = row_limit p
interp p (q ∷ ps) x = pick (leb x p.at) (row_limit p) (pick (leb x q.at) (segment p q x) (interp q ps x))

-- row i, counted from 0, of a table; the next k rows after it; over the n rows of a table
abbrev pub row_at : List ℕ → List ℕ → ℕ → Row
row_at places limits i = row (slice_index places i) (slice_index limits i)

abbrev pub rows_after : List ℕ → List ℕ → ℕ → ℕ → List Row
rows_after places limits i zero = []
rows_after places limits i (suc k) = row_at places limits (i + 1) ∷ rows_after places limits (i + 1) k

abbrev pub along : ℕ → List ℕ → List ℕ → ℕ → Fraction
along n places limits x = interp (row_at places limits 0) (rows_after places limits 0 (n - 1)) x

-- between two places the same, constant outside, times the gap of the places: `interp` over these two rows, as the law `blend-interp` of proofs/Interpolation says
abbrev pub clamp : List ℕ → ℕ → ℕ
clamp at x = min (slice_index at 1) (max (slice_index at 0) x)

unfoldable pub blend : List ℕ → List ℕ → ℕ → ℕ
blend at y x = slice_index y 0 * (slice_index at 1 - clamp at x) + slice_index y 1 * (clamp at x - slice_index at 0)

abbrev pub gap : List ℕ → ℕ
gap at = slice_index at 1 - slice_index at 0

-- a fraction of what was multiplied by g
abbrev pub per : ℕ → Fraction → Fraction
per g f = record { num = f.num; den = f.den * g }

-- column A by n
unfoldable pub column_a : Places → Table → ℕ → Fraction
column_a p t n = along 4 p.axial t.a n

-- the limit of column B at row i, by ρ: between those at the first and the second ρ
abbrev pub limit_b : Places → Table → ℕ → ℕ → ℕ
limit_b p t ρ i = blend p.hoops (two (slice_index t.b1 i) (slice_index t.b2 i)) ρ

-- column B: by ρ at each n, then by n
unfoldable pub column_b : Places → Table → ℕ → ℕ → Fraction
column_b p t n ρ = per (gap p.hoops) (along 4 p.axial (four (limit_b p t ρ 0) (limit_b p t ρ 1) (limit_b p t ρ 2) (limit_b p t ρ 3)) n)

-- column C by n
unfoldable pub column_c : Places → Table → ℕ → Fraction
column_c p t n = along 2 (two (slice_index p.axial 2) (slice_index p.axial 3)) t.c n

-- wall A: by v at each n, then by n
unfoldable pub wall_rows : Places → List ℕ → List ℕ → ℕ → ℕ → Fraction
wall_rows p y1 y2 n v = per (gap p.stress) (along 2 p.walls (two (blend p.stress y1 v) (blend p.stress y2 v)) n)

-- wall A with or without boundary zone
abbrev pub wall_a : Places → Table → ℕ → ℕ → ℕ → Fraction
wall_a p t zone n v = pick (eqb zone 1) (wall_rows p t.zone1 t.zone2 n v) (wall_rows p t.plain1 t.plain2 n v)

-- wall B by v
unfoldable pub wall_b : Places → Table → ℕ → Fraction
wall_b p t v = along 2 p.stress t.wall v

-- the limit of a class before 3/4, 1/2 and factor
abbrev pub exact : Places → Table → Class → ℕ → ℕ → ℕ → ℕ → Fraction
exact p t ColumnA zone n v ρ = column_a p t n
exact p t ColumnB zone n v ρ = column_b p t n ρ
exact p t ColumnC zone n v ρ = column_c p t n
exact p t WallA zone n v ρ = wall_a p t zone n v
exact p t WallB zone n v ρ = wall_b p t v

-- "A strengthened column of class A or B has both limits times 3/4; C is unchanged"
abbrev pub column_quarters : ℕ → ℕ
column_quarters strengthened = pick (eqb strengthened 1) 3 4

-- "A strengthened wall of class B with 0 there has both limits times 1/2 .. Every other strengthened wall keeps the table" (document 02, N6): 0 for "detailed to annex E"
abbrev pub wall_quarters : ℕ → ℕ → ℕ
wall_quarters strengthened annex_e = pick (eqb strengthened 1 && eqb annex_e 0) 2 4

-- how many quarters of its limits a class keeps
abbrev pub quarters : Class → ℕ → ℕ → ℕ
quarters ColumnA strengthened annex_e = column_quarters strengthened
quarters ColumnB strengthened annex_e = column_quarters strengthened
quarters ColumnC strengthened annex_e = 4
quarters WallA strengthened annex_e = 4
quarters WallB strengthened annex_e = wall_quarters strengthened annex_e

-- "Each limit is rounded down once, at the end": after 3/4 or 1/2, and that of the rotation after factor / 100
abbrev pub round_m : Fraction → ℕ → Ratio
round_m f q = ratio_steps (f.num * q) (f.den * 4)

abbrev pub round_rotation : Fraction → ℕ → ℕ → Microradians
round_rotation f q factor = micro_steps (f.num * q * factor) (f.den * 4 * 100)

-- the limits of a class at n, v and ρ
unfoldable pub m_limit_at : LimitSet → Class → ℕ → ℕ → ℕ → ℕ → ℕ → ℕ → Ratio
m_limit_at s class zone strengthened annex_e n v ρ = round_m (exact s.places s.m class zone n v ρ) (quarters class strengthened annex_e)

unfoldable pub rotation_limit_at : LimitSet → Class → ℕ → ℕ → ℕ → ℕ → ℕ → ℕ → ℕ → Microradians
rotation_limit_at s class zone strengthened annex_e factor n v ρ =
    round_rotation (exact s.places s.rotation class zone n v ρ) (quarters class strengthened annex_e) factor
