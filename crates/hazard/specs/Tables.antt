-- Tables 2.3 and 2.4 of document 001 as they are printed: at six columns, S_S or S_1 in hundredths, the coefficients of each site class in tenths.
use Rattle.std.specs.Prelude.{◌∷◌}
use Rattle.records.specs.Notation.{ℕ, List, []}

-- a number in each column
pub record Six : Type 0 where
  pub c1 : ℕ
  pub c2 : ℕ
  pub c3 : ℕ
  pub c4 : ℕ
  pub c5 : ℕ
  pub c6 : ℕ

abbrev pub six : ℕ → ℕ → ℕ → ℕ → ℕ → ℕ → Six
six a b c d e f = record { c1 = a; c2 = b; c3 = c; c4 = d; c5 = e; c6 = f }

-- a table: its columns, and a row for each site class from ZA to ZE
pub record Published : Type 0 where
  pub columns : Six
  pub rows : List Six

-- Table 2.3: F_S at "S_S ≤ 0.25", 0.50, 0.75, 1.00, 1.25 and "S_S ≥ 1.50"
abbrev pub short_period : Published
short_period =
    record {
      columns = six 25 50 75 100 125 150;
      rows = six 8 8 8 8 8 8
          ∷ six 9 9 9 9 9 9
          ∷ six 13 13 12 12 12 12
          ∷ six 16 14 12 11 10 10
          ∷ six 24 17 13 11 9 8
          ∷ [];
    }

-- Table 2.4: F_1 at "S_1 ≤ 0.10", 0.20, 0.30, 0.40, 0.50 and "S_1 ≥ 0.60"
abbrev pub one_second : Published
one_second =
    record {
      columns = six 10 20 30 40 50 60;
      rows = six 8 8 8 8 8 8
          ∷ six 8 8 8 8 8 8
          ∷ six 15 15 15 15 15 14
          ∷ six 24 22 20 19 18 17
          ∷ six 42 33 28 24 22 20
          ∷ [];
    }
