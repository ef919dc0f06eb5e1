-- The lines of a building, one storey after another.
use Prim.Native.Nat.{ℕ, suc, ◌+◌, ◌-◌, ◌≤◌}
use native.Mathlib.Omega.{arith}
use native.Mathlib.Numerals.{add-one}
use mathlib.Core.List.{List, [], ◌++◌}
use mathlib.Core.Path.{◌≡◌, refl}
use lib.ListN.{length}
use Rattle.records.specs.declared.Storey.{Storey}
use Rattle.records.specs.declared.Member.{Member}
use Rattle.checks.proofs.RowsInTurn.{Given, IsStorey}
use Rattle.report.specs.Sheet.{storey_lines, storeys_lines}

-- from storey i on, by a form and a level that are the survey's
module _ (form k : ℕ) (ss : List Storey) (ms : List Member) (i : ℕ) where
  pub storeys-left : (x : Given) → IsStorey ss ms i x → (f l : ℕ) → f ≡ form → l ≡ k
      → storeys_lines form k ss ms i (length ss - i) ≡ storey_lines f l x.0.now x.1.now ++ storeys_lines form k ss ms (i + 1) (length ss - (i + 1))
  unfolding storeys_lines
  storeys-left x at f l d e =
      let n : length ss - i ≡ suc (length ss - (i + 1)) = omega (arith, at.within) in
      rw (n, add-one i, d, e, at.storey, at.own) refl

  pub storeys-end : length ss ≤ i → storeys_lines form k ss ms i (length ss - i) ≡ []
  unfolding storeys_lines
  storeys-end h = let n : length ss - i ≡ 0 = omega arith in rw n refl
