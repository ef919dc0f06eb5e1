-- Where a map coefficient times its site coefficient rises: tested from column to column, carried over all coefficients.
use Prim.Native.Nat.{ℕ, zero, suc, ◌+◌, ◌-◌, ◌*◌, ◌≤◌, ◌<◌, min, max}
use native.Mathlib.Decide.{dec_le}
use native.Mathlib.Nat.{mul-le-mul_right, eq-or-lt_of_le, le_of_suc-le-suc, le_trans}
use native.Mathlib.Omega.{arith}
use mathlib.Core.Bool.{Bool, true}
use mathlib.Core.Logic.{⊎_elim}
use mathlib.Core.Path.{◌≡◌, refl}
use lib.Dec.{leb}
use borrow.Author.Tests.{leb-true}
use Rattle.records.specs.Notation.{every_below}
use Rattle.records.proofs.Below.{every-at}
use Rattle.members.specs.Limits.{interp}
use Rattle.hazard.specs.Tables.{short_period, one_second}
use Rattle.hazard.specs.Site.{between, factor}
use Rattle.hazard.proofs.Places.{short-held, long-held}

-- for any coefficients that are constant outside two places
module _ (g : ℕ → ℕ) (first last : ℕ) (h : first ≤ last) (steps : (x : ℕ) → first ≤ x → x < last → x * g x ≤ suc x * g (suc x)) where
  abbrev clamped : ℕ → ℕ
  clamped x = min last (max first x)

  up : (x y : ℕ) → first ≤ x → x ≤ y → y ≤ last → x * g x ≤ y * g y
  up x zero f k l = let e : x ≡ 0 = omega arith in rw e (omega arith)
  up x (suc y) f k l =
      ⊎_elim (λ (e : x ≡ suc y). rw e (omega arith))
      (λ (i : x < suc y). le_trans (up x y f (le_of_suc-le-suc i) (omega arith)) (steps y (omega arith) (omega arith)))
      (eq-or-lt_of_le k)

  pub rises : ((x : ℕ) → g x ≡ g (clamped x)) → (x y : ℕ) → x ≤ y → x * g x ≤ y * g y
  rises c x y k = go (dec_le y first) (dec_le last x)
    where
      same : clamped x ≡ clamped y → x * g x ≤ y * g y
      same e = rw (c x, c y, e) (mul-le-mul_right (g (clamped y)) k)

      go : Dec (y ≤ first) → Dec (last ≤ x) → x * g x ≤ y * g y
      go (yes i) j = same (omega arith)
      go (no i) (yes j) = same (omega arith)
      go (no i) (no j) =
          rw (c x, c y)
          (le_trans (mul-le-mul_right {m = x} {n = clamped x} (g (clamped x)) (omega arith))
          (le_trans (up (clamped x) (clamped y) (omega arith) (omega arith) (omega arith)) (mul-le-mul_right {m = clamped y} {n = y} (g (clamped y)) (omega arith))))

-- one step from a place past the first column
abbrev step_up : (ℕ → ℕ) → ℕ → ℕ → Bool
step_up g first k = leb ((first + k) * g (first + k)) (suc (first + k) * g (suc (first + k)))

stepped : (g : ℕ → ℕ) (first n x : ℕ) → every_below (step_up g first) n ≡ true → first ≤ x → x < first + n → x * g x ≤ suc x * g (suc x)
stepped g first n x e f l =
    let k = x - first in
    let z : first + k ≡ x = omega arith in
    rw z at (leb-true ((first + k) * g (first + k)) (suc (first + k) * g (suc (first + k))) (every-at (step_up g first) n k e (omega arith)))

short-steps : (j : ℕ) → j < 4 → every_below (step_up (factor short_period j) 25) 125 ≡ true
unfolding every_below interp between factor
short-steps zero h = refl
short-steps (suc zero) h = refl
short-steps (suc (suc zero)) h = refl
short-steps (suc (suc (suc zero))) h = refl
short-steps (suc (suc (suc (suc j)))) h = absurd (omega arith)

long-steps : (j : ℕ) → j < 5 → every_below (step_up (factor one_second j) 10) 50 ≡ true
unfolding every_below interp between factor
long-steps zero h = refl
long-steps (suc zero) h = refl
long-steps (suc (suc zero)) h = refl
long-steps (suc (suc (suc zero))) h = refl
long-steps (suc (suc (suc (suc zero)))) h = refl
long-steps (suc (suc (suc (suc (suc j))))) h = absurd (omega arith)

pub short-rises : (j x y : ℕ) → j < 4 → x ≤ y → x * factor short_period j x ≤ y * factor short_period j y
short-rises j x y h =
    rises (factor short_period j) 25 150 (omega arith) (λ z l m. stepped (factor short_period j) 25 125 z (short-steps j h) l m) (short-held j) x y

pub long-rises : (j x y : ℕ) → j < 5 → x ≤ y → x * factor one_second j x ≤ y * factor one_second j y
long-rises j x y h =
    rises (factor one_second j) 10 60 (omega arith) (λ z l m. stepped (factor one_second j) 10 50 z (long-steps j h) l m) (long-held j) x y
