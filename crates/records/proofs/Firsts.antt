-- Laws of `first`: the first refusal of f 0, f 1, ..
use Prim.Native.Nat.{ℕ, zero, suc, ◌+◌, ◌≤◌, ◌<◌}
use native.Mathlib.Omega.{arith}
use native.Mathlib.Nat.{not-suc-le-zero, eq-or-lt_of_le, le_of_suc-le-suc}
use native.Mathlib.Numerals.{add-one}
use mathlib.Core.Bool.{Bool, true, false}
use mathlib.Core.Logic.{⊎_elim}
use mathlib.Core.Path.{◌≡◌, refl, sym, ◌∙◌}
use lib.Dec.{eqb, eqb-suc-zero}
use borrow.Author.Tests.{eq-eqb, ne_eqb, eqb-true, eqb-false}
use mathlib.Core.List.{List, [], ◌∷◌, ◌++◌}
use Rattle.records.specs.Notation.{pick, in_order, first}

module _ {A : Type 0} (none : A) (number : A → ℕ) (f : ℕ → A) where
  pub first-none : first none number f 0 ≡ none
  unfolding first
  first-none = refl

  pub first_more : (n : ℕ) → first none number f (n + 1) ≡ pick (eqb (number (first none number f n)) 0) (f n) (first none number f n)
  unfolding first
  first_more n = rw add-one

  -- while there is none, the next decides
  pub first_next : (n : ℕ) → number (first none number f n) ≡ 0 → first none number f (n + 1) ≡ f n
  first_next n e = rw (first_more n, eq-eqb _ _ e)

  -- once there is one, it stays
  pub first-kept : (i n : ℕ) → i ≤ n → (number (first none number f i) ≡ 0 → ⊥) → first none number f n ≡ first none number f i
  unfolding first
  first-kept i zero h ne = let e : i ≡ 0 = omega arith in rw e
  first-kept i (suc n) h ne =
      ⊎_elim (λ (e : i ≡ suc n). rw e) (λ (l : i < suc n). let k = first-kept i n (le_of_suc-le-suc l) ne in rw (k, ne_eqb _ _ ne)) (eq-or-lt_of_le h)

pub last_of : (x : ℕ) → pick (eqb x 0) 0 x ≡ x
last_of zero = refl
last_of (suc x) = simp eqb-suc-zero

one_more : (t : Bool) (a e x y : ℕ) → eqb a 0 ≡ t → y ≡ pick (eqb x 0) e x → pick t y a ≡ pick (eqb (pick t x a) 0) e (pick t x a)
one_more true a e x y q h = h
one_more false a e x y q h = rw q

-- a list of refusals with one more at its end
pub in-order-last : (later : List ℕ) (e : ℕ) → in_order (later ++ (e ∷ [])) ≡ pick (eqb (in_order later) 0) e (in_order later)
in-order-last [] e = last_of e
in-order-last (a ∷ later) e = one_more (eqb a 0) a e (in_order later) (in_order (later ++ (e ∷ []))) refl (in-order-last later e)

-- with the first of them known
pub pick-zero : (x e : ℕ) → x ≡ 0 → pick (eqb x 0) e x ≡ e
pick-zero x e h = rw (eq-eqb _ _ h)

pub pick_other : (x e : ℕ) → (x ≡ 0 → ⊥) → pick (eqb x 0) e x ≡ x
pick_other x e h = rw (ne_eqb _ _ h)

pub pick-clear : (x y : ℕ) → pick (eqb x 0) y x ≡ 0 → x ≡ 0
pick-clear zero y e = refl
pick-clear (suc x) y e = simp eqb-suc-zero at e

pub pick-both : (x y : ℕ) → pick (eqb x 0) y x ≡ 0 → y ≡ 0
pick-both zero y e = e
pick-both (suc x) y e = let z : ⊥ = omega (arith, simp eqb-suc-zero at e) in absurd z

-- where a choice by a refusal is none, both are
pub step_clear : {A : Type 0} (number : A → ℕ) (t : Bool) (a b : A) → eqb (number b) 0 ≡ t → number (pick t a b) ≡ 0 → (number a ≡ 0) × (number b ≡ 0)
step_clear number true a b e h = (h, eqb-true (number b) 0 e)
step_clear number false a b e h = absurd (eqb-false (number b) 0 e h)

-- where the first refusal is none, none of them is one
pub first-clear : {A : Type 0} (nil : A) (number : A → ℕ) (f : ℕ → A) (n j : ℕ) → number (first nil number f n) ≡ 0 → j < n → number (f j) ≡ 0
unfolding first
first-clear nil number f zero j e h = absurd (not-suc-le-zero h)
first-clear nil number f (suc n) j e h =
    let c = step_clear number (eqb (number (first nil number f n)) 0) (f n) (first nil number f n) refl e in
    ⊎_elim (λ (q : j ≡ n). rw q c.0) (λ (l : j < n). first-clear nil number f n j c.1 l) (eq-or-lt_of_le (le_of_suc-le-suc h))

-- and where none of them is one, the first is none
pub first-zero : {A : Type 0} (nil : A) (number : A → ℕ) (f : ℕ → A) (n : ℕ) → number nil ≡ 0 → ((j : ℕ) → j < n → number (f j) ≡ 0) → number (first nil number f n) ≡ 0
unfolding first
first-zero nil number f zero h g = h
first-zero nil number f (suc n) h g = rw (eq-eqb _ _ (first-zero nil number f n h (λ j l. g j (omega arith)))) (g n (omega arith))

-- ---- refusals in order
pub in-order-both : (xs ys : List ℕ) → in_order (xs ++ ys) ≡ pick (eqb (in_order xs) 0) (in_order ys) (in_order xs)
in-order-both [] ys = refl
in-order-both (a ∷ xs) ys = one_more (eqb a 0) a (in_order ys) (in_order xs) (in_order (xs ++ ys)) refl (in-order-both xs ys)

-- ---- a loop over refusals: one that stops it, and none
abbrev pub first_fault : (ℕ → ℕ) → ℕ → ℕ
first_fault = first 0 (λ r. r)

pub first-stops : (f : ℕ → ℕ) (n j r : ℕ) → first_fault f j ≡ 0 → j < n → r ≡ f j → 0 < r → r ≡ first_fault f n
first-stops f n j r e h g p =
    let k : first_fault f (j + 1) ≡ r = first_next 0 (λ r. r) f j e ∙ sym g in
    sym (first-kept 0 (λ r. r) f (j + 1) n (omega arith) (λ z. let q : ⊥ = omega (arith, k, z) in absurd q) ∙ k)

pub first-goes_on : (f : ℕ → ℕ) (j : ℕ) → first_fault f j ≡ 0 → 0 ≡ f j → first_fault f (j + 1) ≡ 0
first-goes_on f j e g = first_next 0 (λ r. r) f j e ∙ sym g
