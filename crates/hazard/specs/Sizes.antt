-- The sizes that the code computes with, so that no product wraps.
use Rattle.std.specs.Prelude.{◌≤◌}
use Rattle.records.specs.Notation.{ℕ}
use Rattle.members.specs.declared.limits.Fraction.{Fraction}
use Rattle.hazard.specs.Site.{Motion, Site}
use Rattle.hazard.specs.declared.spectrum.Level.{Level}

pub record SizedMotion (m : Motion) : Type 0 where
  pub ss-least : 1 ≤ m.ss
  pub ss-most : m.ss ≤ 999
  pub s1-least : 1 ≤ m.s1
  pub s1-most : m.s1 ≤ 999

-- S_DS and S_D1: 999 × 4,200 at most
pub record Sized (sds sd1 : ℕ) : Type 0 where
  pub sds-least : 1 ≤ sds
  pub sds-most : sds ≤ 4_195_800
  pub sd1-least : 1 ≤ sd1
  pub sd1-most : sd1 ≤ 4_195_800

abbrev pub SizedSite : Site → Type 0
SizedSite s = Sized s.sds s.sd1

pub record SizedLevel (l : Level) : Type 0 where
  pub coefficients : Sized l.sds l.sd1
  pub tenths : l.tenths ≤ 15

-- a spectrum before its factor
pub record SizedFraction (f : Fraction) : Type 0 where
  pub num : f.num ≤ 17_604_737_640_000_000
  pub den-least : 1 ≤ f.den
  pub den-most : f.den ≤ 9_999_800_001
