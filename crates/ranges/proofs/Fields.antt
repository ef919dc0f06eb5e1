-- A field's range where it stands in a list of ranges.
use Rattle.std.proofs.Common.{◌≡◌, ℕ, zero, suc, ◌+◌, ◌-◌, ◌≤◌, false, List, ◌∷◌, ◌++◌, length, get_or, refl, sym, ap, ◌∙◌, arith}
use Rattle.std.proofs.lemmas.Bool.Decides.{nat_tests}
use Rattle.std.proofs.lemmas.List.{get_or-append-add}
use Rattle.records.specs.Records.{allows, never}

-- nothing is allowed where there is no field
pub nothing : (v : ℕ) → false ≡ allows never v
nothing v = grind (arith, nat_tests)

-- after the first element, and after a first list
pub after_first : {A : Type 0} (x : A) (xs : List A) (j : ℕ) (d : A) → (j ≡ 0 → ⊥) → get_or xs (j - 1) d ≡ get_or (x ∷ xs) j d
after_first x xs zero d h = absurd (h refl)
after_first x xs (suc j) d h = let e : suc j - 1 ≡ j = omega arith in rw e refl

pub after-list : {A : Type 0} (xs ys : List A) (j n : ℕ) (d : A) → length xs ≡ n → n ≤ j → get_or ys (j - n) d ≡ get_or (xs ++ ys) j d
after-list xs ys j n d e h =
    let k : length xs + (j - n) ≡ j = omega arith in
    sym (get_or-append-add xs ys (j - n) d) ∙ ap (λ i. get_or (xs ++ ys) i d) k
