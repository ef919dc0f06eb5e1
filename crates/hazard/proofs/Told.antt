-- What an answer with values says: nothing is refused, and the values are those of the definitions.
use Prim.Native.Nat.{ℕ}
use native.Mathlib.Omega.{arith}
use mathlib.Core.Bool.{Bool, true, false}
use mathlib.Core.List.{[], ◌∷◌}
use mathlib.Core.Path.{◌≡◌, refl, ap}
use lib.Dec.{eqb}
use lib.ListN.{length, get_or}
use borrow.Author.Tests.{eqb-true}
use Rattle.std.specs.Prelude.{Ok, Err}
use Rattle.records.specs.Notation.{pick}
use Rattle.members.specs.Finding.{Returned, found}
use Rattle.hazard.specs.Refusals.{site_fault, spectrum_fault}
use Rattle.hazard.specs.Site.{Motion, site_of, motion, site_answer, site_returned, returned_site}
use Rattle.hazard.specs.Spectrum.{spectrum_of, spectrum_answer, spectrum_returned, returned_spectrum}

pub record SiteTold (class : ℕ) (m : Motion) (sds sd1 : ℕ) : Type 0 where
  pub clear : site_fault class m ≡ 0
  pub short : (site_of class m).sds ≡ sds
  pub long : (site_of class m).sd1 ≡ sd1

pub site-told : (class ss s1 fs f1 sds sd1 : ℕ) → site_returned class ss s1 ≡ found (fs ∷ f1 ∷ sds ∷ sd1 ∷ []) → SiteTold class (motion ss s1) sds sd1
unfolding site_answer
site-told class ss s1 fs f1 sds sd1 = go (eqb (site_fault class m) 0) refl
  where
    m : Motion
    m = motion ss s1

    go : (t : Bool) → eqb (site_fault class m) 0 ≡ t → returned_site (pick t (Ok (site_of class m)) (Err (site_fault class m))) ≡ found (fs ∷ f1 ∷ sds ∷ sd1 ∷ []) → SiteTold class m sds sd1
    go true e q = record { clear = eqb-true _ _ e; short = ap (λ (r : Returned). get_or r.values 2 0) q; long = ap (λ (r : Returned). get_or r.values 3 0) q }
    go false e q = absurd (omega (arith, ap (λ (r : Returned). length r.values) q))

pub record SpectrumTold (class usage : ℕ) (dd1 dd2 : Motion) (t found : ℕ) : Type 0 where
  pub clear : spectrum_fault class usage dd1 dd2 t ≡ 0
  pub value : spectrum_of class usage dd1 dd2 t ≡ found

pub spectrum-told : (class usage : ℕ) (dd1 dd2 : Motion) (t value : ℕ) → spectrum_returned class usage dd1 dd2 t ≡ found (value ∷ []) → SpectrumTold class usage dd1 dd2 t value
unfolding spectrum_answer
spectrum-told class usage dd1 dd2 t value = go (eqb (spectrum_fault class usage dd1 dd2 t) 0) refl
  where
    go : (s : Bool) → eqb (spectrum_fault class usage dd1 dd2 t) 0 ≡ s → returned_spectrum (pick s (Ok (spectrum_of class usage dd1 dd2 t)) (Err (spectrum_fault class usage dd1 dd2 t))) ≡ found (value ∷ []) → SpectrumTold class usage dd1 dd2 t value
    go true e q = record { clear = eqb-true _ _ e; value = ap (λ (r : Returned). get_or r.values 0 0) q }
    go false e q = absurd (omega (arith, ap (λ (r : Returned). length r.values) q))
