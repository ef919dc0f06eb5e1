-- Laws of load cases: of one that the form lacks, of a list of four.
use Prim.Native.Nat.{ℕ, zero, suc, ◌≤◌, ◌<◌}
use native.Mathlib.Omega.{arith}
use native.Mathlib.Nat.{le_of_suc-le-suc, not-suc-le-zero}
use mathlib.Core.Bool.{Bool, true, false}
use mathlib.Core.List.{List, [], ◌∷◌}
use mathlib.Core.Path.{◌≡◌, refl}
use lib.Dec.{eqb}
use lib.ListN.{length, get_or}
use borrow.Author.Tests.{eqb-true}
use Rattle.records.specs.Notation.{pick, every_below}
use Rattle.records.specs.declared.LoadCase.{LoadCase}
use Rattle.records.specs.Records.{no_case, is_blank, in_cases, case_count, case_values}
use Rattle.records.proofs.Below.{every-at}

-- an element of a list, whatever stands past its end
pub get_d_any : {A : Type 0} (xs : List A) (j : ℕ) (d e : A) → j < length xs → get_or xs j d ≡ get_or xs j e
get_d_any [] j d e h = absurd (not-suc-le-zero h)
get_d_any (x ∷ xs) zero d e h = refl
get_d_any (x ∷ xs) (suc j) d e h = get_d_any xs j d e (le_of_suc-le-suc h)

pub blank_none : is_blank no_case ≡ true
unfolding is_blank every_below
blank_none = refl

-- such a case is that one
pub blank-is : (k : LoadCase) → is_blank k ≡ true → k ≡ no_case
unfolding is_blank
blank-is k e =
    let f : (j : ℕ) → j < 8 → get_or (case_values k) j 0 ≡ get_or (case_values no_case) j 0 = λ j h. eqb-true _ _ (every-at (λ j. eqb (get_or (case_values k) j 0) (get_or (case_values no_case) j 0)) 8 j e h) in
    rw (f 0 (omega arith), f 1 (omega arith), f 2 (omega arith), f 3 (omega arith), f 4 (omega arith), f 5 (omega arith), f 6 (omega arith), f 7 (omega arith))

-- a list of four is its four elements
pub four : {A : Type 0} (d : A) (xs : List A) → length xs ≡ 4 → xs ≡ get_or xs 0 d ∷ get_or xs 1 d ∷ get_or xs 2 d ∷ get_or xs 3 d ∷ []
four d [] e = absurd (omega arith)
four d (x ∷ []) e = absurd (omega arith)
four d (x ∷ y ∷ []) e = absurd (omega arith)
four d (x ∷ y ∷ z ∷ []) e = absurd (omega arith)
four d (x ∷ y ∷ z ∷ w ∷ []) e = refl
four d (x ∷ y ∷ z ∷ w ∷ v ∷ vs) e = absurd (omega arith)

-- a form has one to four cases
one-or-four : (t : Bool) → (1 ≤ pick t 4 1) × (pick t 4 1 ≤ 4)
one-or-four true = (omega arith, omega arith)
one-or-four false = (omega arith, omega arith)

pub cases-least : (form : ℕ) → 1 ≤ case_count form
cases-least form = (one-or-four (in_cases form)).0

pub cases-most : (form : ℕ) → case_count form ≤ 4
cases-most form = (one-or-four (in_cases form)).1
