-- Which line of equation 2.3 decides at a period, and its size. The proofs cite these laws and not the definition.
use Prim.Native.Nat.{ℕ, zero, suc, ◌*◌, ◌≤◌, ◌<◌}
use native.Mathlib.Decide.{dec_le}
use native.Mathlib.Nat.{mul-le-mul, mul-pos}
use native.Mathlib.Omega.{arith}
use mathlib.Core.Path.{◌≡◌}
use borrow.Author.Tests.{le-leb, lt-leb}
use Rattle.hazard.specs.Spectrum.{spectral, t_l, line1, line2, line3, line4}
use Rattle.hazard.specs.Sizes.{Sized, SizedFraction}

module _ (sds sd1 t : ℕ) where
  pub to-a : t * sds ≤ 200 * sd1 → spectral sds sd1 t ≡ line1 sds sd1 t
  unfolding spectral
  to-a h = simp (le-leb (t * sds) (200 * sd1) h)

  pub to-b : 200 * sd1 < t * sds → t * sds ≤ 1_000 * sd1 → spectral sds sd1 t ≡ line2 sds
  unfolding spectral
  to-b a h = simp (lt-leb (t * sds) (200 * sd1) a, le-leb (t * sds) (1_000 * sd1) h)

  pub to-l : 1_000 * sd1 < t * sds → t ≤ t_l → spectral sds sd1 t ≡ line3 sd1 t
  unfolding spectral
  to-l b h = simp (lt-leb (t * sds) (200 * sd1) (omega arith), lt-leb (t * sds) (1_000 * sd1) b, le-leb t t_l h)

  pub past-l : 1_000 * sd1 < t * sds → t_l < t → spectral sds sd1 t ≡ line4 sd1 t
  unfolding spectral
  past-l b l = simp (lt-leb (t * sds) (200 * sd1) (omega arith), lt-leb (t * sds) (1_000 * sd1) b, lt-leb t t_l l)

pub positive : (t s n : ℕ) → n < t * s → 1 ≤ t
positive zero s n h = absurd (omega arith)
positive (suc t) s n h = omega arith

pub spectral-sized : (sds sd1 t : ℕ) → Sized sds sd1 → t ≤ 99_999 → SizedFraction (spectral sds sd1 t)
spectral-sized sds sd1 t s m = go (dec_le (t * sds) (200 * sd1)) (dec_le (t * sds) (1_000 * sd1)) (dec_le t t_l)
  where
    go : Dec (t * sds ≤ 200 * sd1) → Dec (t * sds ≤ 1_000 * sd1) → Dec (t ≤ t_l) → SizedFraction (spectral sds sd1 t)
    go (yes a) b c = rw (to-a sds sd1 t a) (record { num = mul-le-mul {m₂ = 4_195_800_000} s.sds-most (omega arith); den-least = omega arith; den-most = omega arith })
    go (no a) (yes b) c = rw (to-b sds sd1 t (omega arith) b) (record { num = omega arith; den-least = omega arith; den-most = omega arith })
    go (no a) (no b) (yes c) = rw (to-l sds sd1 t (omega arith) c) (record { num = omega arith; den-least = positive t sds (1_000 * sd1) (omega arith); den-most = omega arith })
    go (no a) (no b) (no c) =
        rw (past-l sds sd1 t (omega arith) (omega arith))
        (record { num = omega arith; den-least = mul-pos {m = t} {n = t} (omega arith) (omega arith); den-most = mul-le-mul m m })

pub ruleset lines = (to-a, to-b, to-l, past-l)
