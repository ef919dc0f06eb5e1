-- Sizes of what the definitions give.
use Prim.Native.Nat.{ℕ, ◌≤◌, ◌<◌}
use native.Mathlib.Nat.{mul-le-mul}
use native.Mathlib.Omega.{arith}
use mathlib.Core.Bool.{Bool, true, false, ◌&&◌}
use mathlib.Core.Path.{◌≡◌, refl}
use lib.Dec.{leb, eqb}
use borrow.Author.Tests.{leb-true, eqb-false}
use Rattle.records.specs.Notation.{every_below, pick}
use Rattle.records.proofs.Below.{and_left, and_right, every-at}
use Rattle.members.specs.Limits.{interp}
use Rattle.hazard.specs.Tables.{short_period, one_second}
use Rattle.hazard.specs.Site.{Motion, Site, between, factor, entry_exact, entry_of, row_of, site_of}
use Rattle.hazard.specs.Spectrum.{level_of, level, replaced}
use Rattle.hazard.specs.Sizes.{SizedMotion, SizedSite, SizedLevel}
use Rattle.hazard.proofs.Places.{short-place, long-place}

abbrev sized_at : ℕ → Bool
sized_at k = leb 1 (entry_of k) && leb (entry_of k) 4_200

all-sized : every_below sized_at 885 ≡ true
unfolding every_below interp between entry_exact
all-sized = refl

entry-sized : (k : ℕ) → k < 885 → (1 ≤ entry_of k) × (entry_of k ≤ 4_200)
entry-sized k h =
    let t = every-at sized_at 885 k all-sized h in
    (leb-true _ _ (and_left _ _ t), leb-true _ _ (and_right (leb 1 (entry_of k)) _ t))

pub short-sized : (j x : ℕ) → j < 5 → (1 ≤ factor short_period j x) × (factor short_period j x ≤ 4_200)
short-sized j x h = rw (short-place j x h) (entry-sized _ (omega arith))

pub long-sized : (j x : ℕ) → j < 5 → (1 ≤ factor one_second j x) × (factor one_second j x ≤ 4_200)
long-sized j x h = rw (long-place j x h) (entry-sized _ (omega arith))

pub row_below : (class : ℕ) → 1 ≤ class → class ≤ 6 → row_of class < 5
row_below class h k = go (eqb class 6) refl
  where
    go : (t : Bool) → eqb class 6 ≡ t → row_of class < 5
    go true e = rw e (omega arith)
    go false e = rw e (omega (arith, eqb-false class 6 e))

pub site-sized : (class : ℕ) (m : Motion) → 1 ≤ class → class ≤ 6 → SizedMotion m → SizedSite (site_of class m)
unfolding site_of
site-sized class m h k s =
    let j = row_below class h k in
    let fs = short-sized (row_of class) m.ss j in
    let f1 = long-sized (row_of class) m.s1 j in
    record {
      sds-least = mul-le-mul s.ss-least fs.0;
      sds-most = mul-le-mul s.ss-most fs.1;
      sd1-least = mul-le-mul s.s1-least f1.0;
      sd1-most = mul-le-mul s.s1-most f1.1;
    }

of-level : (s : Site) (tenths : ℕ) → tenths ≤ 15 → SizedSite s → SizedLevel (level s tenths)
of-level s tenths h z = record { coefficients = z; tenths = h }

pub level-sized : (usage : ℕ) (dd1 dd2 : Site) → SizedSite dd1 → SizedSite dd2 → SizedLevel (level_of usage dd1 dd2)
unfolding level_of
level-sized usage dd1 dd2 h k = go (eqb usage 2) (replaced dd1 dd2)
  where
    go : (t r : Bool) → SizedLevel (pick t (level dd2 9) (pick r (level dd2 15) (level dd1 10)))
    go true r = of-level dd2 9 (omega arith) k
    go false true = of-level dd2 15 (omega arith) k
    go false false = of-level dd1 10 (omega arith) h
