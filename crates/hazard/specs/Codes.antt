-- What the numbers of a call stand for: site classes and uses by their codes, and what is refused.
use Rattle.std.specs.Prelude.{ℕ, false, ◌≡◌, Result, MatchResult}
use Rattle.records.specs.declared.refusal.Refusal.{Refusal, TheVariants.OutOfRange, TheVariants.OutsideMap}
use Rattle.hazard.specs.declared.site.Motion.{Motion}
use Rattle.hazard.specs.Refusals.{in_map, period_taken, class_listed, use_listed}
pub use Rattle.hazard.specs.declared.{taken.MapMotion.MapMotion, taken.Period.Period, site.SiteClass.SiteClass, site.SiteClass.TheVariants.Za, site.SiteClass.TheVariants.Zb, site.SiteClass.TheVariants.Zc, site.SiteClass.TheVariants.Zd, site.SiteClass.TheVariants.Ze, site.SiteClass.TheVariants.Zf, spectrum.Usage.Usage, spectrum.Usage.TheVariants.Dd1, spectrum.Usage.TheVariants.Dd2}

abbrev pub class_number : SiteClass → ℕ
class_number Za = 1
class_number Zb = 2
class_number Zc = 3
class_number Zd = 4
class_number Ze = 5
class_number Zf = 6

abbrev pub usage_number : Usage → ℕ
usage_number Dd1 = 1
usage_number Dd2 = 2

-- the class with a number, or 3 where there is none
abbrev pub Classed : ℕ → Result SiteClass Refusal → Type 0
Classed n r = MatchResult r (λ class. class_number class ≡ n) (λ e. (e ≡ OutOfRange) × (class_listed n ≡ false))

-- the use likewise
abbrev pub Used : ℕ → Result Usage Refusal → Type 0
Used n r = MatchResult r (λ usage. usage_number usage ≡ n) (λ e. (e ≡ OutOfRange) × (use_listed n ≡ false))

-- a level of ground motion within the map's range, or 14
abbrev pub Mapped : Motion → Result MapMotion Refusal → Type 0
Mapped m r = MatchResult r (λ taken. taken.motion ≡ m) (λ e. (e ≡ OutsideMap) × (in_map m ≡ false))

-- a period likewise
abbrev pub Timed : ℕ → Result Period Refusal → Type 0
Timed n r = MatchResult r (λ taken. taken.milliseconds ≡ n) (λ e. (e ≡ OutsideMap) × (period_taken n ≡ false))
