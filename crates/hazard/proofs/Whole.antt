-- No coefficient is rounded: those of the table by its test, the end columns as they are.
use Prim.Native.Nat.{ℕ, ◌+◌, ◌-◌, ◌*◌, ◌≤◌, ◌<◌}
use native.Mathlib.Decide.{dec_le}
use native.Mathlib.Omega.{arith}
use mathlib.Core.Path.{◌≡◌}
use Rattle.members.specs.declared.limits.Fraction.{Fraction}
use Rattle.hazard.specs.Tables.{short_period, one_second}
use Rattle.hazard.specs.Site.{row_at, exactly, thousandths, factor, entry_exact}
use Rattle.hazard.specs.Entries.{Whole}
use Rattle.hazard.proofs.Entries.{entry-exact}
use Rattle.hazard.proofs.Places.{short-rising, long-rising, own-low, own-high, short-at, long-at}

own : (f : Fraction) → f.den ≡ 1 → thousandths f * f.den ≡ f.num * 100
own f e = rw e (omega arith)

from-table : (f : Fraction) (k : ℕ) → k < 885 → entry_exact k ≡ f → thousandths f * f.den ≡ f.num * 100
from-table f k h e = rw e at (entry-exact k h)

pub short-whole : Whole short_period
unfolding factor
short-whole j x h = go (dec_le x 25) (dec_le x 150)
  where
    go : Dec (x ≤ 25) → Dec (x ≤ 150) → thousandths (exactly short_period j x) * (exactly short_period j x).den ≡ (exactly short_period j x).num * 100
    go (yes l) k = own (exactly short_period j x) (own-low short_period.columns (row_at short_period j) short-rising x l)
    go (no l) (no k) = own (exactly short_period j x) (own-high short_period.columns (row_at short_period j) short-rising x (omega arith))
    go (no l) (yes k) =
        let z : 25 + (x - 25) ≡ x = omega arith in
        from-table (exactly short_period j x) (j * 126 + (x - 25)) (omega arith) (rw z at (short-at j (x - 25) h (omega arith)))

pub long-whole : Whole one_second
unfolding factor
long-whole j x h = go (dec_le x 10) (dec_le x 60)
  where
    go : Dec (x ≤ 10) → Dec (x ≤ 60) → thousandths (exactly one_second j x) * (exactly one_second j x).den ≡ (exactly one_second j x).num * 100
    go (yes l) k = own (exactly one_second j x) (own-low one_second.columns (row_at one_second j) long-rising x l)
    go (no l) (no k) = own (exactly one_second j x) (own-high one_second.columns (row_at one_second j) long-rising x (omega arith))
    go (no l) (yes k) =
        let z : 10 + (x - 10) ≡ x = omega arith in
        from-table (exactly one_second j x) (630 + j * 51 + (x - 10)) (omega arith) (rw z at (long-at j (x - 10) h (omega arith)))
