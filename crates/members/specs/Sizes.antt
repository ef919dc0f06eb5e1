-- The sizes that the code computes with, so that no product wraps.
use Rattle.std.specs.Prelude.{ℕ, List, slice_index, ◌*◌, ◌/◌, ◌≤◌, ◌<◌, min}
use Rattle.members.specs.Units.{Microradians}
use Rattle.members.specs.declared.limits.Row.{Row}
use Rattle.members.specs.declared.limits.Fraction.{Fraction}
use Rattle.members.specs.declared.tables.Places.{Places}
use Rattle.members.specs.declared.tables.Table.{Table}
use Rattle.members.specs.declared.tables.LimitSet.{LimitSet}

-- what the field of a rotation holds at most ("run from 0 .. to 9,999,999"): the cap of the code's unit, which no limit reaches (`below-cap` of proofs/Rounding)
abbrev pub micro_cap : ℕ
micro_cap = 9_999_999

abbrev pub micro_down : ℕ → ℕ → Microradians
micro_down a b = record { 0 = min micro_cap (a / b) }

-- rising places of at most 200,000
pub record Places4 (f : List ℕ) : Type 0 where
  pub first : slice_index f 0 < slice_index f 1
  pub second : slice_index f 1 < slice_index f 2
  pub third : slice_index f 2 < slice_index f 3
  pub most : slice_index f 3 ≤ 200_000

pub record Places2 (t : List ℕ) : Type 0 where
  pub first : slice_index t 0 < slice_index t 1
  pub most : slice_index t 1 ≤ 200_000

pub record SizedPlaces (p : Places) : Type 0 where
  pub axial : Places4 p.axial
  pub hoops : Places2 p.hoops
  pub walls : Places2 p.walls
  pub stress : Places2 p.stress

-- limits of at most so much
pub record Most4 (most : ℕ) (f : List ℕ) : Type 0 where
  pub r1 : slice_index f 0 ≤ most
  pub r2 : slice_index f 1 ≤ most
  pub r3 : slice_index f 2 ≤ most
  pub r4 : slice_index f 3 ≤ most

pub record Most2 (most : ℕ) (t : List ℕ) : Type 0 where
  pub r1 : slice_index t 0 ≤ most
  pub r2 : slice_index t 1 ≤ most

pub record SizedTable (most : ℕ) (t : Table) : Type 0 where
  pub a : Most4 most t.a
  pub b1 : Most4 most t.b1
  pub b2 : Most4 most t.b2
  pub c : Most2 most t.c
  pub zone1 : Most2 most t.zone1
  pub zone2 : Most2 most t.zone2
  pub plain1 : Most2 most t.plain1
  pub plain2 : Most2 most t.plain2
  pub wall : Most2 most t.wall

-- a row that the code can weigh
pub record SizedRow (p : Row) : Type 0 where
  pub at : p.at ≤ 200_000
  pub limit : p.limit ≤ 4_000_000_000_000

-- rows that the code can weigh
pub record SizedRows (n : ℕ) (places limits : List ℕ) : Type 0 where
  pub at : (i : ℕ) → i < n → slice_index places i ≤ 200_000
  pub limit : (i : ℕ) → i < n → slice_index limits i ≤ 4_000_000_000_000

-- a mean of limits of at most so much
pub record Mean (most : ℕ) (f : Fraction) : Type 0 where
  pub positive : 0 < f.den
  pub den : f.den ≤ 40_000_000_000
  pub mean : f.num ≤ most * f.den

-- a set whose limits can be cut by quarters, and those of the rotation by hundredths besides
pub record SizedSet (s : LimitSet) : Type 0 where
  pub places : SizedPlaces s.places
  pub m : SizedTable 9_999_999 s.m
  pub rotation : SizedTable 999_999 s.rotation
