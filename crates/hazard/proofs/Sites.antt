-- The coefficients of a site out of the table.
use Prim.Native.Nat.{ℕ, ◌+◌, ◌-◌, ◌*◌, min, max}
use native.Mathlib.Omega.{arith}
use mathlib.Core.Bool.{true}
use mathlib.Core.Path.{◌≡◌, refl, sym, ap, subst, ◌∙◌}
use Rattle.hazard.specs.Codes.{SiteClass, class_number}
use Rattle.hazard.specs.Refusals.{in_map}
use Rattle.hazard.specs.Site.{Motion, Site, entry_of, row_of, site_of}
use Rattle.hazard.specs.Sizes.{SizedSite}
use Rattle.hazard.proofs.Accepted.{class_within, motion-sized}
use Rattle.hazard.proofs.Places.{short-place, long-place}
use Rattle.hazard.proofs.Sizes.{row_below, site-sized}

abbrev pub computed : Motion → ℕ → ℕ → Site
computed m fs f1 = record { fs = fs; f1 = f1; sds = m.ss * fs; sd1 = m.s1 * f1 }

pub record IsSite (class : SiteClass) (m : Motion) (fs f1 : ℕ) : Type 0 where
  pub value : computed m fs f1 ≡ site_of (class_number class) m
  pub sized : SizedSite (computed m fs f1)

-- the numbers of the table at the place of a class and at the map coefficients
pub is_site : (class : SiteClass) (m : Motion) (fs f1 : ℕ) → in_map m ≡ true → fs ≡ entry_of (0 + row_of (class_number class) * 126 + (min 150 (max 25 m.ss) - 25)) → f1 ≡ entry_of (630 + row_of (class_number class) * 51 + (min 60 (max 10 m.s1) - 10)) → IsSite class m fs f1
unfolding site_of
is_site class m fs f1 i e f =
    let k = class_within class in
    let b = row_below (class_number class) k.0 k.1 in
    let v : computed m fs f1 ≡ site_of (class_number class) m =
    rw (e ∙ ap entry_of (omega arith) ∙ sym (short-place _ m.ss b), f ∙ sym (long-place _ m.s1 b)) refl
    in
    record { value = v; sized = subst SizedSite (sym v) (site-sized (class_number class) m k.0 k.1 (motion-sized m i)) }
