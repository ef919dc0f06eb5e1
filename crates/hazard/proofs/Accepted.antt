-- The facts of a call of which nothing is refused.
use Prim.Native.Nat.{ℕ, ◌≤◌}
use native.Mathlib.Omega.{arith}
use mathlib.Core.Bool.{Bool, true, false, ◌&&◌}
use mathlib.Core.Path.{◌≡◌, refl}
use lib.Dec.{leb}
use borrow.Author.Tests.{leb-true}
use Rattle.records.proofs.Below.{and_left, and_right}
use Rattle.hazard.specs.Site.{Motion}
use Rattle.hazard.specs.Refusals.{in_map, period_taken, class_listed, use_listed, call_fault, site_fault, spectrum_fault}
use Rattle.hazard.specs.Codes.{SiteClass, Za, Zb, Zc, Zd, Ze, Zf, Usage, Dd1, Dd2, class_number, usage_number}
use Rattle.hazard.specs.Sizes.{SizedMotion}

clear : (taken listed : Bool) → call_fault taken listed ≡ 0 → (taken ≡ true) × (listed ≡ true)
clear true true e = (refl, refl)
clear true false e = absurd (omega arith)
clear false listed e = absurd (omega arith)

from : (a b x : ℕ) → (leb a x && leb x b) ≡ true → (a ≤ x) × (x ≤ b)
from a b x e = (leb-true a x (and_left _ _ e), leb-true x b (and_right (leb a x) _ e))

pub motion-sized : (m : Motion) → in_map m ≡ true → SizedMotion m
motion-sized m e =
    let ss = from 1 999 m.ss (and_left _ _ e) in
    let s1 = from 1 999 m.s1 (and_right (leb 1 m.ss && leb m.ss 999) _ e) in
    record { ss-least = ss.0; ss-most = ss.1; s1-least = s1.0; s1-most = s1.1 }

pub site-accepted : (class : ℕ) (m : Motion) → site_fault class m ≡ 0 → (1 ≤ class) × (class ≤ 6) × SizedMotion m
unfolding site_fault
site-accepted class m e =
    let o = clear (in_map m) (class_listed class) e in
    let k = from 1 6 class o.1 in
    (k.0, k.1, motion-sized m o.0)

pub record Taken (class usage : ℕ) (dd1 dd2 : Motion) (t : ℕ) : Type 0 where
  pub class-least : 1 ≤ class
  pub class-most : class ≤ 6
  pub usage-least : 1 ≤ usage
  pub usage-most : usage ≤ 2
  pub first : SizedMotion dd1
  pub second : SizedMotion dd2
  pub period : t ≤ 99_999

pub spectrum-accepted : (class usage : ℕ) (dd1 dd2 : Motion) (t : ℕ) → spectrum_fault class usage dd1 dd2 t ≡ 0 → Taken class usage dd1 dd2 t
unfolding spectrum_fault
spectrum-accepted class usage dd1 dd2 t e =
    let o = clear (in_map dd1 && (in_map dd2 && period_taken t)) (class_listed class && use_listed usage) e in
    let later = and_right (in_map dd1) _ o.0 in
    let k = from 1 6 class (and_left _ _ o.1) in
    let u = from 1 2 usage (and_right (class_listed class) _ o.1) in
    record {
      class-least = k.0;
      class-most = k.1;
      usage-least = u.0;
      usage-most = u.1;
      first = motion-sized dd1 (and_left _ _ o.0);
      second = motion-sized dd2 (and_left _ _ later);
      period = leb-true t 99_999 (and_right (in_map dd2) _ later);
    }

-- the numbers of classes and uses are listed
pub class_known : (class : SiteClass) → class_listed (class_number class) ≡ true
class_known Za = refl
class_known Zb = refl
class_known Zc = refl
class_known Zd = refl
class_known Ze = refl
class_known Zf = refl

pub usage_known : (usage : Usage) → use_listed (usage_number usage) ≡ true
usage_known Dd1 = refl
usage_known Dd2 = refl

pub class_within : (class : SiteClass) → (1 ≤ class_number class) × (class_number class ≤ 6)
class_within class = from 1 6 (class_number class) (class_known class)

pub ruleset codes = (class_known, usage_known)
