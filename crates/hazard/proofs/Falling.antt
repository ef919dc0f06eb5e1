-- From T_A on the spectrum never rises: equation 2.3 as exact values, then rounded up.
use Prim.Native.Nat.{ℕ, ◌*◌, ◌≤◌, ◌<◌}
use native.Mathlib.Decide.{dec_le}
use native.Mathlib.Nat.{mul-le-mul, mul-le-mul_left, mul-le-mul_right, mul-pos, le_of_mul-le-mul_right}
use native.Mathlib.Omega.{arith}
use mathlib.Core.Path.{◌≡◌}
use Rattle.members.specs.declared.limits.Fraction.{Fraction}
use Rattle.members.specs.Units.{ceiling}
use Rattle.members.proofs.Fractions.{◌⊑◌, ⊑_refl, ⊑_trans}
use Rattle.members.proofs.Rounding.{ceiling-covers, ceiling-least}
use Rattle.hazard.specs.Spectrum.{t_l, line1, line2, spectral}
use Rattle.hazard.proofs.Lines.{to-a, to-b, to-l, past-l}

module _ (a b : ℕ) where
  -- at T_A line 1 has reached S_DS
  reached : (t : ℕ) → t * a ≡ 200 * b → (line1 a b t).num ≡ a * (1_000 * b)
  reached t e = rw e (omega arith)

  under_top : (u : ℕ) → 200 * b ≤ u * a → spectral a b u ⊑ line2 a
  under_top u h = go (dec_le (u * a) (200 * b)) (dec_le (u * a) (1_000 * b)) (dec_le u t_l)
    where
      go : Dec (u * a ≤ 200 * b) → Dec (u * a ≤ 1_000 * b) → Dec (u ≤ t_l) → spectral a b u ⊑ line2 a
      go (yes x) y z = rw (to-a a b u x) (record { cross = omega (arith, reached u (omega arith)) })
      go (no x) (yes y) z = rw (to-b a b u (omega arith) y) (⊑_refl (line2 a))
      go (no x) (no y) (yes z) = rw (to-l a b u (omega arith) z) (record { cross = omega arith })
      go (no x) (no y) (no z) =
          let p : 1_000 * b * 6_000 ≤ u * a * u = mul-le-mul {n₁ = 1_000 * b} {m₁ = 6_000} {n₂ = u * a} {m₂ = u} (omega arith) (omega arith) in
          rw (past-l a b u (omega arith) (omega arith)) (record { cross = omega arith })

  over-top : (t : ℕ) → 200 * b ≤ t * a → t * a ≤ 1_000 * b → line2 a ⊑ spectral a b t
  over-top t h k = go (dec_le (t * a) (200 * b))
    where
      go : Dec (t * a ≤ 200 * b) → line2 a ⊑ spectral a b t
      go (yes x) = rw (to-a a b t x) (record { cross = omega (arith, reached t (omega arith)) })
      go (no x) = rw (to-b a b t (omega arith) k) (⊑_refl (line2 a))

  past-b : (t u : ℕ) → 1_000 * b < t * a → t ≤ u → spectral a b u ⊑ spectral a b t
  past-b t u h k = go (dec_le t t_l) (dec_le u t_l)
    where
      further : 1_000 * b < u * a
      further = omega (arith, mul-le-mul_right a k)

      go : Dec (t ≤ t_l) → Dec (u ≤ t_l) → spectral a b u ⊑ spectral a b t
      go (yes x) (yes y) = rw (to-l a b t h x, to-l a b u further y) (record { cross = mul-le-mul_left (1_000 * b) k })
      go (yes x) (no y) =
          let p : 6_000 * t ≤ u * u = mul-le-mul {n₁ = 6_000} {m₁ = t} {n₂ = u} {m₂ = u} (omega arith) k in
          rw (to-l a b t h x, past-l a b u further (omega arith)) (record { cross = omega (arith, mul-le-mul_left (1_000 * b) p) })
      go (no x) (yes y) = absurd (omega arith)
      go (no x) (no y) = rw (past-l a b t h (omega arith), past-l a b u further (omega arith)) (record { cross = mul-le-mul_left (1_000 * b * t_l) (mul-le-mul k k) })

  pub falls : (t u : ℕ) → 200 * b ≤ t * a → t ≤ u → spectral a b u ⊑ spectral a b t
  falls t u h k = go (dec_le (t * a) (1_000 * b))
    where
      go : Dec (t * a ≤ 1_000 * b) → spectral a b u ⊑ spectral a b t
      go (yes x) = ⊑_trans (spectral a b u) (line2 a) (spectral a b t) (omega arith) (under_top u (omega (arith, mul-le-mul_right a k))) (over-top t h x)
      go (no x) = past-b t u (omega arith) k

-- the factor and the rounding up keep the order
pub up-mono : (f g : Fraction) (k n : ℕ) → 0 < f.den → 0 < g.den → 0 < n → f ⊑ g → ceiling (f.num * k) (f.den * n) ≤ ceiling (g.num * k) (g.den * n)
up-mono f g k n p q r h =
    let c = ceiling (g.num * k) (g.den * n) in
    let covers : g.num * k ≤ c * (g.den * n) = ceiling-covers (g.num * k) (g.den * n) (mul-pos q r) in
    ceiling-least (f.num * k) (f.den * n) c (mul-pos p r)
    (le_of_mul-le-mul_right (omega (arith, mul-le-mul_right k h.cross, mul-le-mul_right f.den covers)) q)
