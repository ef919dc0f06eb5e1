-- How the answers go with the period and with the map coefficients: the claims of specs/Order.antt.
use Prim.Native.Nat.{◌<◌}
use native.Mathlib.Omega.{arith}
use mathlib.Core.Bool.{false}
use mathlib.Core.Path.{◌≡◌, refl}
use lib.Dec.{eqb}
use borrow.Author.Tests.{ne_eqb}
use Rattle.members.specs.Limits.{interp}
use Rattle.hazard.specs.Refusals.{site_fault}
use Rattle.hazard.specs.Site.{between, factor, motion, row_of, site_of, site_answer}
use Rattle.hazard.specs.Spectrum.{level_of, spectral, spectrum_at}
use Rattle.hazard.specs.Order.{NeverRises, ShortRises, LongRises, ShortFalls}
use Rattle.hazard.proofs.Accepted.{site-accepted, spectrum-accepted}
use Rattle.hazard.proofs.Falling.{falls, up-mono}
use Rattle.hazard.proofs.Lines.{spectral-sized}
use Rattle.hazard.proofs.Rising.{short-rises, long-rises}
use Rattle.hazard.proofs.Sizes.{row_below, site-sized, level-sized}
use Rattle.hazard.proofs.Told.{site-told, spectrum-told}

pub never-rises : NeverRises
unfolding spectrum_at
never-rises class usage dd1 dd2 t u a b p q from h =
    let x = spectrum-told class usage dd1 dd2 t a p in
    let y = spectrum-told class usage dd1 dd2 u b q in
    let c = spectrum-accepted class usage dd1 dd2 t x.clear in
    let d = spectrum-accepted class usage dd1 dd2 u y.clear in
    let l = level_of usage (site_of class dd1) (site_of class dd2) in
    let s =
    level-sized usage (site_of class dd1) (site_of class dd2) (site-sized class dd1 c.class-least c.class-most c.first)
    (site-sized class dd2 c.class-least c.class-most c.second)
    in
    let f = spectral-sized l.sds l.sd1 t s.coefficients c.period in
    let g = spectral-sized l.sds l.sd1 u s.coefficients d.period in
    rw (← x.value, ← y.value)
    (up-mono (spectral l.sds l.sd1 u) (spectral l.sds l.sd1 t) l.tenths 10 g.den-least f.den-least (omega arith) (falls l.sds l.sd1 t u from h))

pub short-rises-all : ShortRises
unfolding site_of
short-rises-all class ss ss' s1 s1' fs fs' f1 f1' sds sds' sd1 sd1' p q k h =
    let x = site-told class ss s1 fs f1 sds sd1 p in
    let y = site-told class ss' s1' fs' f1' sds' sd1' q in
    let c = site-accepted class (motion ss s1) x.clear in
    let e : eqb class 6 ≡ false = ne_eqb class 6 (λ (z : class ≡ 6). omega arith) in
    let j : row_of class < 4 = rw e (omega arith) in
    rw (← x.short, ← y.short) (short-rises (row_of class) ss ss' j h)

pub long-rises-all : LongRises
unfolding site_of
long-rises-all class ss ss' s1 s1' fs fs' f1 f1' sds sds' sd1 sd1' p q h =
    let x = site-told class ss s1 fs f1 sds sd1 p in
    let y = site-told class ss' s1' fs' f1' sds' sd1' q in
    let c = site-accepted class (motion ss s1) x.clear in
    rw (← x.long, ← y.long) (long-rises (row_of class) s1 s1' (row_below class c.0 c.1) h)

pub short-falls : ShortFalls
unfolding site_answer site_fault site_of interp between factor
short-falls = record { smaller = refl; larger = refl }
