-- Ratios keep order under rounding and cap; and what rounding up means.
use Prim.Native.Nat.{ℕ, ◌+◌, ◌-◌, ◌*◌, ◌/◌, ◌≤◌, ◌<◌, min}
use native.Mathlib.Omega.{arith}
use native.Mathlib.Nat.{div-lt_iff_lt-mul, lt-div-mul-add, mul-le-mul_left, mul-le-mul_right, mul-pos, le-div_iff_mul-le, div-mul-le_self}
use Rattle.members.specs.Units.{Ratio, HoopRatio, Microradians, ceiling, ratio_cap, ratio_up, hoop_down, micro_steps}
use Rattle.members.specs.Sizes.{micro_cap, micro_down, Mean}
use Rattle.members.specs.declared.limits.Fraction.{Fraction}
use Rattle.members.proofs.Arithmetic.{product}
use mathlib.Core.Path.{◌≡◌, ap}
use Rattle.members.specs.Finding.{axial, moment, stress, hoops, compression}

-- a number in each unit
abbrev pub ratio : ℕ → Ratio
ratio n = record { 0 = n }

abbrev pub hoop : ℕ → HoopRatio
hoop n = record { 0 = n }

abbrev pub microradians : ℕ → Microradians
microradians n = record { 0 = n }

-- the quotient rounded up is the least number whose multiple covers what is divided
pub ceiling-covers : (a b : ℕ) → 0 < b → a ≤ ceiling a b * b
ceiling-covers a b h = omega (arith, lt-div-mul-add {a = a + (b - 1)} {b = b} h)

pub ceiling-least : (a b q : ℕ) → 0 < b → a ≤ q * b → ceiling a b ≤ q
ceiling-least a b q h k =
    let r : (a + (b - 1)) / b < q + 1 = (div-lt_iff_lt-mul h).1 (omega arith) in
    omega arith

-- it rises with what is divided and falls with the divisor
pub ceiling-mono : {a a' b b' : ℕ} → a ≤ a' → b' ≤ b → 0 < b' → ceiling a b ≤ ceiling a' b'
ceiling-mono {a} {a'} {b} {b'} h k p =
    ceiling-least a b (ceiling a' b') (omega arith) (omega (arith, ceiling-covers a' b' p, mul-le-mul_left (ceiling a' b') k))

scaled-up : (scale : ℕ) {a a' b b' : ℕ} → a ≤ a' → b' ≤ b → 0 < b' → min ratio_cap (ceiling (a * scale) b) ≤ min ratio_cap (ceiling (a' * scale) b')
scaled-up scale {a} {a'} {b} {b'} h k p =
    omega (arith, ceiling-mono {a = a * scale} {a' = a' * scale} {b = b} {b' = b'} (mul-le-mul_right scale h) k p)

pub ratio-mono : {a a' b b' : ℕ} → a ≤ a' → b' ≤ b → 0 < b' → (ratio_up a b).0 ≤ (ratio_up a' b').0
ratio-mono h k p = scaled-up _ h k p

quotient-mono : {a a' : ℕ} (b : ℕ) → a' ≤ a → 0 < b → a' / b ≤ a / b
quotient-mono {a} {a'} b h p = (le-div_iff_mul-le p).1 (omega (arith, div-mul-le_self a' b))

scaled-down : (cap scale : ℕ) {a a' : ℕ} (b : ℕ) → a' ≤ a → 0 < b → min cap (a' * scale / b) ≤ min cap (a * scale / b)
scaled-down cap scale {a} {a'} b h p = omega (arith, quotient-mono {a = a * scale} {a' = a' * scale} b (mul-le-mul_right scale h) p)

pub hoop-mono : {a a' : ℕ} (b : ℕ) → a' ≤ a → 0 < b → (hoop_down a' b).0 ≤ (hoop_down a b).0
hoop-mono b h p = scaled-down _ _ b h p

-- below the cap a rotation is as it is without one
pub below-cap : (a b : ℕ) → 0 < b → a ≤ micro_cap * b → micro_down a b ≡ micro_steps a b
below-cap a b h k =
    let r : a / b < micro_cap + 1 = (div-lt_iff_lt-mul h).1 (omega arith) in
    ap microradians (omega arith)

-- and so is a part of a limit of the rotation
pub limit_below_cap : (f : Fraction) (q factor : ℕ) → Mean 999_999 f → q ≤ 4 → factor ≤ 100 → micro_down (f.num * q * factor) (f.den * 4 * 100) ≡ micro_steps (f.num * q * factor) (f.den * 4 * 100)
limit_below_cap f q factor mean h k =
    let m = product (999_999 * f.den) 4 mean.mean h in
    below-cap _ _ (omega (arith, mean.positive)) (omega (arith, product (999_999 * f.den * 4) 100 m k))

-- a rotation that its field holds is kept
pub rotation_kept : (a : ℕ) → a ≤ micro_cap → micro_down a 1 ≡ microradians a
rotation_kept a h = ap microradians (omega arith)

-- n and n_D rise with the force, m with M_e and as M_p falls, v with V_e; ρ falls as A_sh does
pub axial-mono : {force force' : ℕ} (fcm area : ℕ) → force ≤ force' → 0 < fcm → 0 < area → (axial force fcm area).0 ≤ (axial force' fcm area).0
unfolding axial
axial-mono {force} {force'} fcm area h p q =
    ratio-mono {a = compression force * 1_000} {a' = compression force' * 1_000} {b = fcm * area} {b' = fcm * area} (omega arith) (omega arith) (mul-pos p q)

pub moment-mono : {me me' mp mp' : ℕ} (k : ℕ) → me ≤ me' → mp' ≤ mp → 0 < k → 0 < mp' → (moment k me mp).0 ≤ (moment k me' mp').0
unfolding moment
moment-mono {me} {me'} {mp} {mp'} k h g p q =
    ratio-mono {a = me * 100} {a' = me' * 100} {b = k * mp} {b' = k * mp'} (omega arith) (mul-le-mul_left k g) (mul-pos p q)

pub stress-mono : {ve ve' : ℕ} (short depth fctm : ℕ) → ve ≤ ve' → 0 < short → 0 < depth → 0 < fctm → (stress ve short depth fctm).0 ≤ (stress ve' short depth fctm).0
unfolding stress
stress-mono {ve} {ve'} short depth fctm h p q r =
    ratio-mono {a = ve * 10_000} {a' = ve' * 10_000} {b = short * depth * fctm} {b' = short * depth * fctm} (omega arith) (omega arith) (mul-pos (mul-pos p q) r)

pub hoops-mono : {area area' : ℕ} (spacing core : ℕ) → area' ≤ area → 0 < spacing → 0 < core → (hoops area' spacing core).0 ≤ (hoops area spacing core).0
unfolding hoops
hoops-mono spacing core h p q = hoop-mono (spacing * core) h (mul-pos p q)
