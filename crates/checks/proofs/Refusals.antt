-- Where there is no refusal, none of the checks refuses.
use Prim.Native.Nat.{ℕ, ◌<◌}
use native.Mathlib.Omega.{arith}
use mathlib.Core.Bool.{Bool, true, false}
use mathlib.Core.List.{List, [], ◌∷◌}
use mathlib.Core.Path.{◌≡◌, refl}
use lib.Dec.{eqb}
use borrow.Author.Tests.{eqb-true, eqb-false, eq-eqb}
use Rattle.records.specs.Notation.{pick, in_order, first}
use Rattle.records.proofs.Firsts as Firsts
use Rattle.records.proofs.Validity.{clear}
use Rattle.checks.specs.Rows.{count_fault}

-- the first of two refusals is none
chosen-clear : (t : Bool) (a later : ℕ) → eqb a 0 ≡ t → pick t later a ≡ 0 → (a ≡ 0) × (later ≡ 0)
chosen-clear true a later e f = (eqb-true a 0 e, f)
chosen-clear false a later e f = absurd (eqb-false a 0 e f)

-- a list of refusals, none of which is one
pub data None : List ℕ → Type 0 where
  end : None []
  also : {a : ℕ} {later : List ℕ} → a ≡ 0 → None later → None (a ∷ later)

pub in-order-clear : (rs : List ℕ) → in_order rs ≡ 0 → None rs
in-order-clear [] e = end
in-order-clear (a ∷ later) e =
    let c = chosen-clear (eqb a 0) a (in_order later) refl e in
    also c.0 (in-order-clear later c.1)

pub in-order-none : {rs : List ℕ} → None rs → in_order rs ≡ 0
in-order-none end = refl
in-order-none (also {a = a} e later) = rw (eq-eqb a 0 e) (in-order-none later)

pub one : {a : ℕ} {later : List ℕ} → None (a ∷ later) → a ≡ 0
one (also e later) = e

pub rest : {a : ℕ} {later : List ℕ} → None (a ∷ later) → None later
rest (also e later) = later

pub first-clear : (f : ℕ → ℕ) (n : ℕ) → first 0 (λ r. r) f n ≡ 0 → (i : ℕ) → i < n → f i ≡ 0
first-clear f n e i h = Firsts.first-clear 0 (λ r. r) f n i e h

pub count-clear : (count rows : ℕ) → count_fault count rows ≡ 0 → count ≡ rows
count-clear count rows e = eqb-true count rows (clear (eqb count rows) 0 1 e (omega arith)).0
