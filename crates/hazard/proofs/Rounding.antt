-- The library's quotient rounded up is that of the definition.
use Prim.Native.Nat.{ℕ, ◌+◌, ◌-◌, ◌*◌, ◌/◌, ◌%◌, ◌<◌, ◌≤◌}
use native.Mathlib.Decide.{dec_le}
use native.Mathlib.Omega.{arith}
use mathlib.Core.Path.{◌≡◌, ap}
use Rattle.std.specs.Int.{div_ceil}
use Rattle.std.proofs.lemmas.Nat.{div-mul-add, div-add-mod'}
use Rattle.members.specs.Units.{ceiling}

pub rounded_up : (a b : ℕ) → 0 < b → div_ceil a b ≡ ceiling a b
rounded_up a b h = go (dec_le (a % b) 0)
  where
    parts : a / b * b + a % b ≡ a
    parts = div-add-mod' a b

    go : Dec (a % b ≤ 0) → div_ceil a b ≡ ceiling a b
    go (yes k) =
        let e : a / b * b + (b - 1) ≡ a + (b - 1) = omega (arith, parts) in
        let q : (a / b * b + (b - 1)) / b ≡ a / b = div-mul-add (a / b) b (b - 1) (omega arith) in
        omega (arith, ap (λ (n : ℕ). n / b) e, q)
    go (no k) =
        let e : (a / b + 1) * b + (a % b - 1) ≡ a + (b - 1) = omega (arith, parts) in
        let q : ((a / b + 1) * b + (a % b - 1)) / b ≡ a / b + 1 = div-mul-add (a / b + 1) b (a % b - 1) (omega arith) in
        omega (arith, ap (λ (n : ℕ). n / b) e, q)

pub ruleset rounded = (rounded_up)
