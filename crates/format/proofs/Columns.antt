-- Laws of the spelling of a number, column by column.
use Prim.Native.Nat.{ℕ, zero, suc, ◌+◌, ◌-◌, ◌*◌, ◌/◌, ◌%◌, ◌^◌, ◌≤◌, ◌<◌}
use native.Mathlib.Omega.{arith}
use native.Mathlib.Nat.{div-lt_iff_lt-mul, pow-suc, pow-le-pow_right}
use native.Mathlib.Numerals.{add-one}
use mathlib.Core.Bool.{Bool, true, false, ◌&&◌}
use mathlib.Core.List.{List, [], ◌∷◌}
use mathlib.Core.Path.{◌≡◌, refl, ap}
use lib.Dec.{leb, ltb, eqb}
use lib.ListN.{length, drop, get_or, drop_of_length-le}
use lib.Pointwise.{pointwise}
use lib.Seq.{drop-cons}
use borrow.Author.Tests.{eqb-true, ltb-true, leb-true}
use Rattle.records.specs.Notation.{pick}
use Rattle.format.specs.Spelling.{column, same, pushed, value}
use Rattle.records.proofs.Below.{and_left, and_right}

-- ---- the number of some columns
pub value-more : (l : List ℕ) (v j : ℕ) → j < length l → value v (drop j l) ≡ value (pushed v (get_or l j 0)) (drop (j + 1) l)
unfolding value
value-more l v j h = rw (add-one, drop-cons l j 0 h)

pub value-all : (l : List ℕ) (v j : ℕ) → length l ≤ j → value v (drop j l) ≡ v
unfolding value
value-all l v j h = rw (drop_of_length-le l h)

digit-small : (t : Bool) (v d i : ℕ) → v < 10 ^ i → (t ≡ true → d ≤ 9) → pick t (v * 10 + d) v < 10 ^ (i + 1)
digit-small true v d i h g = rw (add-one, pow-suc) (omega (arith, g refl))
digit-small false v d i h g = rw (add-one, pow-suc) (omega arith)

-- a column multiplies the bound by ten
pub pushed-small : (v b i : ℕ) → v < 10 ^ i → pushed v b < 10 ^ (i + 1)
pushed-small v b i h =
    digit-small (leb 48 b && leb b 57) v (b - 48) i h (λ e. omega (arith, leb-true b 57 (and_right (leb 48 b) (leb b 57) e)))

-- ---- a comparison with a spelling
pub same_pointwise : (xs ys : List ℕ) → same xs ys ≡ pointwise eqb xs ys
unfolding same
same_pointwise [] [] = refl
same_pointwise [] (y ∷ ys) = refl
same_pointwise (x ∷ xs) [] = refl
same_pointwise (x ∷ xs) (y ∷ ys) = ap (λ b. eqb x y && b) (same_pointwise xs ys)

pub same-eq : (xs ys : List ℕ) → same xs ys ≡ true → xs ≡ ys
unfolding same
same-eq [] [] e = refl
same-eq [] (y ∷ ys) e = let z : ◌≡◌ {A = ℕ} 0 1 = cc in absurd (omega arith)
same-eq (x ∷ xs) [] e = let z : ◌≡◌ {A = ℕ} 0 1 = cc in absurd (omega arith)
same-eq (x ∷ xs) (y ∷ ys) e =
    let p = eqb-true x y (and_left (eqb x y) (same xs ys) e) in
    let q = same-eq xs ys (and_right (eqb x y) (same xs ys) e) in
    cc

-- a number with a minus and a blank before it has fewer digits than the columns after the blank
no-blank : (t : Bool) (x : ℕ) → pick t 45 (48 + x) ≡ 32 → ⊥
no-blank true x e = omega (arith, e)
no-blank false x e = omega (arith, e)

blank-more : (t : Bool) (n j a b : ℕ) → (t ≡ true → n < 10) → (b ≡ 32 → n / 10 < 10 ^ j) → pick t a b ≡ 32 → n < 10 ^ suc j
blank-more true n j a b h g e = rw pow-suc (omega (arith, h refl, pow-le-pow_right {n = 10} (omega arith) {i = 0} {j = j} (omega arith)))
blank-more false n j a b h g e = rw pow-suc ((div-lt_iff_lt-mul {k = 10} {x = n} {y = 10 ^ j} (omega arith)).0 (g e))

pub blank-small : (n j : ℕ) → column 45 n (suc j) ≡ 32 → n < 10 ^ j
unfolding column
blank-small n zero e = absurd (no-blank (ltb n 10) (n / 10 % 10) e)
blank-small n (suc j) e = blank-more (ltb n 10) n j _ _ (ltb-true n 10) (blank-small (n / 10) j) e

-- a blank in column j has at most j digits to its right
pub blank-digits : (n j : ℕ) → column 32 n j ≡ 32 → n < 10 ^ j
unfolding column
blank-digits n zero e = let z : ⊥ = omega (arith, e) in absurd z
blank-digits n (suc j) e = blank-more (ltb n 10) n j _ _ (ltb-true n 10) (blank-digits (n / 10) j) e
