-- The numbers of the table: number k is the linear value between the published columns, and exactly so.
use Rattle.std.specs.Prelude.{◌*◌, ◌<◌, ◌≡◌}
use Rattle.records.specs.Notation.{ℕ}
use Rattle.hazard.specs.Tables.{Published}
use Rattle.hazard.specs.Site.{exactly, factor, entry_exact, entry_of}

pub record Entry (k x : ℕ) : Type 0 where
  pub value : x ≡ entry_of k
  pub exact : x * (entry_exact k).den ≡ (entry_exact k).num * 100

-- F_S and F_1 are never rounded, whatever the map coefficient
abbrev pub Whole : Published → Type 0
Whole t = (j x : ℕ) → j < 5 → factor t j x * (exactly t j x).den ≡ (exactly t j x).num * 100
