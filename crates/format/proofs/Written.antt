-- Laws of a field with a minus: when it is written as it must be, and what it then holds.
use Prim.Native.Nat.{ℕ, ◌-◌, ◌<◌}
use native.Mathlib.Omega.{arith}
use mathlib.Core.Bool.{Bool, true, false, and-false}
use mathlib.Core.List.{List}
use mathlib.Core.Path.{◌≡◌, ap, sym, ◌∙◌}
use lib.Dec.{eqb}
use lib.ListN.{get_or}
use borrow.Author.Tests.{eqb-true, eq-eqb, ne_eqb, lt-ltb}
use Rattle.std.specs.Prelude.{Some, None}
use Rattle.records.specs.Records.{zero_force}
use Rattle.format.specs.Spelling.{spelled, same, value, written, minus_of}
use Rattle.records.proofs.Below.{and_left, and_right}
use Rattle.format.proofs.Columns.{same-eq, blank-small}

-- a number with a minus has six digits at most
pub minus-small : (t : List ℕ) → get_or t 0 0 ≡ 32 → same t (spelled 8 45 (value 0 t)) ≡ true → value 0 t < 1_000_000
unfolding spelled
minus-small t b w =
    let e = same-eq t (spelled 8 45 (value 0 t)) w in
    blank-small (value 0 t) 6 (ap (λ (l : List ℕ). get_or l 0 0) (sym e) ∙ b)

pub written-small : (t : List ℕ) → written 45 t ≡ true → value 0 t < 1_000_000
unfolding written
written-small t w = minus-small t (eqb-true (get_or t 0 0) 32 (and_left (eqb (get_or t 0 0) 32) _ w)) (and_right (eqb (get_or t 0 0) 32) _ w)

module _ (t : List ℕ) where
  pub minus-zero : value 0 t ≡ 0 → None ≡ minus_of t
  unfolding minus_of
  minus-zero e = rw e (simp and-false)

  pub minus-not-blank : (get_or t 0 0 ≡ 32 → ⊥) → None ≡ minus_of t
  unfolding minus_of written
  minus-not-blank ne = rw (ne_eqb _ _ ne)

  pub minus_by : (r : Bool) → (value 0 t ≡ 0 → ⊥) → get_or t 0 0 ≡ 32 → r ≡ same t (spelled 8 45 (value 0 t)) → r ≡ true → Some (zero_force - value 0 t) ≡ minus_of t
  unfolding minus_of written
  minus_by r z b e w = rw (eq-eqb _ _ b, (sym e ∙ w), lt-ltb 0 (value 0 t) (omega (arith, z)))

  pub minus-unlike : (r : Bool) → r ≡ same t (spelled 8 45 (value 0 t)) → r ≡ false → None ≡ minus_of t
  unfolding minus_of written
  minus-unlike r e w = rw (sym e ∙ w) (simp and-false)
