-- The first refusal of lines, while a loop looks for it: what one turn does.
use Prim.Native.Nat.{ℕ, zero, suc, ◌+◌, ◌<◌}
use native.Mathlib.Omega.{arith}
use mathlib.Core.Bool.{Bool, true, false}
use mathlib.Core.Path.{◌≡◌, refl, ap, sym, ◌∙◌}
use lib.Dec.{eqb, eqb-suc-zero}
use borrow.Author.Tests.{ne_eqb}
use Rattle.records.specs.Notation.{pick, first}
use Rattle.reading.specs.Survey.{no_fault, at-line, or_else, first_fault}
use Rattle.reading.specs.Survey.{Fault}
use Rattle.records.proofs.Firsts.{first-none, first_next, first-kept, step_clear}

abbrev pub Plain : Fault → Type 0
Plain f = f.number ≡ 0 → f ≡ no_fault

plain-pick : (t : Bool) (f g : Fault) → Plain f → Plain g → Plain (pick t f g)
plain-pick true f g h k = h
plain-pick false f g h k = k

-- number 0 is no refusal
pub line_plain : (l r : ℕ) → Plain (at-line l r)
line_plain l zero e = refl
line_plain l (suc r) e = let z : ⊥ = omega (arith, simp eqb-suc-zero at e) in absurd z

pub else-plain : (f g : Fault) → Plain f → Plain g → Plain (or_else f g)
else-plain f g h k = plain-pick (eqb f.number 0) g f k h

-- a line's own refusal comes before those of the lines after it
pub else-here : (l r : ℕ) (g : Fault) → (r ≡ 0 → ⊥) → or_else (at-line l r) g ≡ record { number = r; line = l }
else-here l r g ne = simp (ne_eqb r 0 ne)

pub else-later : (l r : ℕ) (g : Fault) → r ≡ 0 → or_else (at-line l r) g ≡ g
else-later l r g e = rw e

pub line_clear : (l r : ℕ) → (at-line l r).number ≡ 0 → r ≡ 0
line_clear l zero e = refl
line_clear l (suc r) e = simp eqb-suc-zero at e

pub else-clear : (f g : Fault) → (or_else f g).number ≡ 0 → (f.number ≡ 0) × (g.number ≡ 0)
else-clear f g e = let c = step_clear (λ (f : Fault). f.number) (eqb f.number 0) g f refl e in (c.1, c.0)

module _ (f : ℕ → Fault) where
  pub begins : (first_fault f 0).number ≡ 0
  begins = ap (λ (g : Fault). g.number) (first-none no_fault (λ g. g.number) f)

  module _ (j : ℕ) (e : (first_fault f j).number ≡ 0) where
    next : first_fault f (j + 1) ≡ f j
    next = first_next no_fault (λ g. g.number) f j e

    pub goes_on : (f j).number ≡ 0 → (first_fault f (j + 1)).number ≡ 0
    goes_on z = ap (λ (g : Fault). g.number) next ∙ z

    pub stops : (n : ℕ) (r : Fault) → j < n → f j ≡ r → (r.number ≡ 0 → ⊥) → r ≡ first_fault f n
    stops n r h q ne =
        let k = next ∙ q in
        sym (first-kept no_fault (λ g. g.number) f (j + 1) n (omega arith) (λ z. ne (sym (ap (λ (g : Fault). g.number) k) ∙ z)) ∙ k)

  pub first_plain : ((j : ℕ) → Plain (f j)) → (n : ℕ) → Plain (first_fault f n)
  unfolding first
  first_plain h zero e = refl
  first_plain h (suc n) e = plain-pick (eqb (first_fault f n).number 0) (f n) (first_fault f n) (h n) (first_plain h n) e
