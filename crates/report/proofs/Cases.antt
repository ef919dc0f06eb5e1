-- The lines of a storey, one load case after another.
use Prim.Native.Nat.{ℕ, suc, ◌+◌, ◌-◌, ◌≤◌, ◌<◌}
use native.Mathlib.Omega.{arith}
use native.Mathlib.Numerals.{add-one}
use mathlib.Core.Bool.{Bool, ◌||◌}
use mathlib.Core.List.{List, [], ◌++◌}
use mathlib.Core.Path.{◌≡◌, refl}
use Rattle.records.specs.Notation.{any_below}
use Rattle.records.specs.declared.Storey.{Storey}
use Rattle.records.specs.declared.Member.{Member}
use Rattle.report.specs.Sheet.{case_lines, cases_lines}

-- a test of the numbers below i, and of i
pub any-next : (p : ℕ → Bool) (i : ℕ) (before here : Bool) → before ≡ any_below p i → here ≡ p i → (before || here) ≡ any_below p (i + 1)
unfolding any_below
any-next p i before here b h = rw (b, h, add-one i) refl

-- from case c on, of n
module _ (form k : ℕ) (s : Storey) (rows : List Member) (c n : ℕ) where
  pub cases-left : c < n → cases_lines form k s rows c (n - c) ≡ case_lines form k s rows c ++ cases_lines form k s rows (c + 1) (n - (c + 1))
  unfolding cases_lines
  cases-left h =
      let d : n - c ≡ suc (n - (c + 1)) = omega arith in
      rw (d, add-one c) refl

  pub cases-end : n ≤ c → cases_lines form k s rows c (n - c) ≡ []
  unfolding cases_lines
  cases-end h = let d : n - c ≡ 0 = omega arith in rw d refl
