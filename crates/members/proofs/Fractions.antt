-- Exact values compared by cross multiplication.
use Prim.Native.Nat.{ℕ, ◌*◌, ◌/◌, ◌≤◌, ◌<◌}
use native.Mathlib.Nat.{mul-le-mul_right, mul-pos, le-div_iff_mul-le, div-mul-le_self, le_of_mul-le-mul_right}
use native.Mathlib.Omega.{arith}
use Rattle.members.specs.declared.limits.Fraction.{Fraction}
use Rattle.members.specs.Limits.{per}

infix 40 ◌⊑◌
-- one value is at most another
pub record ◌⊑◌ (f g : Fraction) : Type 0 where
  pub cross : f.num * g.den ≤ g.num * f.den

pub ⊑_refl : (f : Fraction) → f ⊑ f
⊑_refl f = record { cross = omega arith }

-- through a value between them
pub ⊑_trans : (f g k : Fraction) → 0 < g.den → f ⊑ g → g ⊑ k → f ⊑ k
⊑_trans f g k pos h i =
    record
    { cross = le_of_mul-le-mul_right (omega (arith, mul-le-mul_right k.den h.cross, mul-le-mul_right f.den i.cross)) pos }

-- both of what was multiplied by the same gap
pub per-mono : (d : ℕ) {f g : Fraction} → f ⊑ g → per d f ⊑ per d g
per-mono d h = record { cross = omega (arith, mul-le-mul_right d h.cross) }

-- a share of at most as much, rounded down, keeps the order
pub share-mono : (f g : Fraction) (a b whole : ℕ) → 0 < f.den → 0 < g.den → 0 < whole → a ≤ b → f ⊑ g → (f.num * a) / (f.den * whole) ≤ (g.num * b) / (g.den * whole)
share-mono f g a b whole hf hg hw l h =
    let q = (f.num * a) / (f.den * whole) in
    (le-div_iff_mul-le (mul-pos hg hw)).1
    (le_of_mul-le-mul_right
    (omega (
      arith,
      mul-le-mul_right g.den (div-mul-le_self (f.num * a) (f.den * whole)),
      mul-le-mul_right a h.cross,
      mul-le-mul_right (g.num * f.den) l,
    ))
    hf)
