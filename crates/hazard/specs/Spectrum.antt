-- The spectrum (document 001, 2.8, 2.9 and table 2.1; document 02, N8), an exact fraction of hundred-thousandths until the one rounding. Periods are in milliseconds.
use Rattle.std.specs.Prelude.{◌+◌, ◌*◌, ◌∷◌, Result, Ok, Err}
use Rattle.records.specs.Notation.{ℕ, Bool, [], leb, ltb, eqb, pick}
use Rattle.members.specs.Units.{ceiling}
use Rattle.members.specs.declared.limits.Fraction.{Fraction}
use Rattle.members.specs.Finding.{Returned, found, refused}
use Rattle.hazard.specs.Refusals.{spectrum_fault}
use Rattle.hazard.specs.Site.{Motion, Site, site_of}
pub use Rattle.hazard.specs.declared.spectrum.Level.{Level}

-- equation 2.4, T_A = 0.2 S_D1 / S_DS and T_B = S_D1 / S_DS: T ≤ T_A and T ≤ T_B, by multiplication
abbrev pub up_to_ta : ℕ → ℕ → ℕ → Bool
up_to_ta sds sd1 t = leb (t * sds) (200 * sd1)

abbrev pub up_to_tb : ℕ → ℕ → ℕ → Bool
up_to_tb sds sd1 t = leb (t * sds) (1_000 * sd1)

-- "T_L of 6 seconds"
abbrev pub t_l : ℕ
t_l = 6_000

-- the lines of equation 2.3: (0.4 + 0.6 T / T_A) S_DS; S_DS; S_D1 / T; S_D1 T_L / T²
abbrev pub line1 : ℕ → ℕ → ℕ → Fraction
line1 sds sd1 t = record { num = sds * (400 * sd1 + 3 * (t * sds)); den = 1_000 * sd1 }

abbrev pub line2 : ℕ → Fraction
line2 sds = record { num = sds; den = 1 }

abbrev pub line3 : ℕ → ℕ → Fraction
line3 sd1 t = record { num = 1_000 * sd1; den = t }

abbrev pub line4 : ℕ → ℕ → Fraction
line4 sd1 t = record { num = 1_000 * sd1 * t_l; den = t * t }

-- equation 2.3: "the topmost fitting line of 2.3 decides"
unfoldable pub spectral : ℕ → ℕ → ℕ → Fraction
spectral sds sd1 t = pick (up_to_ta sds sd1 t) (line1 sds sd1 t) (pick (up_to_tb sds sd1 t) (line2 sds) (pick (leb t t_l) (line3 sd1 t) (line4 sd1 t)))

-- the level of ground motion that decides, and the factor on its spectrum in tenths
abbrev pub level : Site → ℕ → Level
level s tenths = record { sds = s.sds; sd1 = s.sd1; tenths = tenths }

-- "1.5 × S_DS of DD-2 is the smaller"
abbrev pub replaced : Site → Site → Bool
replaced dd1 dd2 = ltb (15 * dd2.sds) (10 * dd1.sds)

-- "For use 2 of table 2.1 the DD-2 spectrum is multiplied by 0.9; for the DD-1 uses, full DD-2 times 1.5 replaces DD-1 where 1.5 × S_DS of DD-2 is the smaller"
unfoldable pub level_of : ℕ → Site → Site → Level
level_of usage dd1 dd2 = pick (eqb usage 2) (level dd2 9) (pick (replaced dd1 dd2) (level dd2 15) (level dd1 10))

-- "rounded up to that grid", "Rounding comes last"
unfoldable pub spectrum_at : Level → ℕ → ℕ
spectrum_at l t = ceiling ((spectral l.sds l.sd1 t).num * l.tenths) ((spectral l.sds l.sd1 t).den * 10)

-- the spectrum of a site class, a use, the map coefficients of DD-1 and DD-2, and a period
abbrev pub spectrum_of : ℕ → ℕ → Motion → Motion → ℕ → ℕ
spectrum_of class usage dd1 dd2 t = spectrum_at (level_of usage (site_of class dd1) (site_of class dd2)) t

unfoldable pub spectrum_answer : ℕ → ℕ → Motion → Motion → ℕ → Result ℕ ℕ
spectrum_answer class usage dd1 dd2 t =
    pick (eqb (spectrum_fault class usage dd1 dd2 t) 0) (Ok (spectrum_of class usage dd1 dd2 t)) (Err (spectrum_fault class usage dd1 dd2 t))

-- what each case of the answer says
abbrev pub returned_spectrum : Result ℕ ℕ → Returned
returned_spectrum (Ok s) = found (s ∷ [])
returned_spectrum (Err n) = refused n

abbrev pub spectrum_returned : ℕ → ℕ → Motion → Motion → ℕ → Returned
spectrum_returned class usage dd1 dd2 t = returned_spectrum (spectrum_answer class usage dd1 dd2 t)
