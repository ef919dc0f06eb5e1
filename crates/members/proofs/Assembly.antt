-- What a known level is within.
use Prim.Native.Nat.{ℕ, ◌≤◌}
use native.Mathlib.Omega.{arith}
use mathlib.Core.Bool.{Bool, true, false, ◌||◌}
use mathlib.Core.Path.{◌≡◌, refl}
use lib.Dec.{eqb}
use borrow.Author.Tests.{eqb-true}
use Rattle.members.specs.Finding.{knowledge}

-- k's two levels are within what the ratios compute with
pub level-sized : (k : ℕ) → knowledge k ≡ true → (1 ≤ k) × (k ≤ 100)
level-sized k e = go (eqb k 90) (eqb k 100) (eqb-true k 90) (eqb-true k 100) e
  where
    go : (a b : Bool) → (a ≡ true → k ≡ 90) → (b ≡ true → k ≡ 100) → (a || b) ≡ true → (1 ≤ k) × (k ≤ 100)
    go true b f g e = (omega (arith, f refl), omega (arith, f refl))
    go false b f g e = (omega (arith, g e), omega (arith, g e))
