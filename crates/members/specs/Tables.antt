-- The tables of limits (document 01, "Member").
use Rattle.std.specs.Prelude.{◌∷◌}
use Rattle.records.specs.Notation.{ℕ, List, []}
pub use Rattle.members.specs.declared.tables.{Places.Places, Table.Table, LimitSet.LimitSet, Share.Share}

abbrev pub four : ℕ → ℕ → ℕ → ℕ → List ℕ
four a b c d = a ∷ b ∷ c ∷ d ∷ []

abbrev pub two : ℕ → ℕ → List ℕ
two a b = a ∷ b ∷ []

-- where the rows stand: n of columns, ρ of column B, n and v of walls
unfoldable pub places : Places
places = record { axial = four 10_000 60_000 70_000 100_000; hoops = two 500 6_000; walls = two 10_000 25_000; stress = two 90_000 130_000 }

-- the limits of m: columns A, B (1 and 2 for the first and the second ρ) and C at the n above; wall A with boundary zone and without at the two v (1 and 2 for
-- the first and the second n of walls); wall B at the two v
unfoldable pub moments : Table
moments =
    record {
      a = four 600_000 300_000 100_000 100_000;
      b1 = four 250_000 125_000 100_000 100_000;
      b2 = four 600_000 300_000 100_000 100_000;
      c = two 100_000 100_000;
      zone1 = two 700_000 400_000;
      zone2 = two 400_000 250_000;
      plain1 = two 450_000 250_000;
      plain2 = two 250_000 150_000;
      wall = two 500_000 250_000;
    }

-- the limits of the rotation, in microradians
unfoldable pub rotations : Table
rotations =
    record {
      a = four 40_000 15_000 5_000 0;
      b1 = four 12_500 5_000 5_000 0;
      b2 = four 35_000 10_000 5_000 0;
      c = two 5_000 0;
      zone1 = two 30_000 15_000;
      zone2 = two 20_000 10_000;
      plain1 = two 15_000 7_500;
      plain2 = two 10_000 5_000;
      wall = two 20_000 10_000;
    }

-- the allowed share of a storey, hundredths, at two axial ratios per member: "0.35 while Σ ≤ 10,000 × c, 0 from Σ = 65,000 × c" (document 02, N2)
abbrev pub published_share : Share
published_share = record { first = record { at = 10_000; limit = 35 }; second = record { at = 65_000; limit = 0 } }

-- the set that document 01 publishes
abbrev pub published : LimitSet
published = record { places = places; m = moments; rotation = rotations }
