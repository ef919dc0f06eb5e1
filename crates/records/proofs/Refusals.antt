-- Laws of refusals and their numbers.
use Prim.Native.Nat.{ℕ, ◌<◌}
use native.Mathlib.Omega.{arith}
use mathlib.Core.List.{List, ◌∷◌}
use mathlib.Core.Path.{◌≡◌, refl, ap, sym, ◌∙◌}
use Rattle.std.specs.Prelude.{false, Result, Ok, Err}
use lib.Dec.{eqb}
use borrow.Author.Tests.{ne_eqb}
use Rattle.records.specs.Notation.{in_order, pick}
use Rattle.records.specs.Refusals.{Refusal, refusal_number, numbered, Structure, Spelling, OutOfRange, SidesExchanged, NumberRepeated, TrailingBytes, NotLowRise, TooLarge, SheetTooLong, FileTooLong, CaseMisnumbered, OutsideMap}

-- the number of a refusal is not 0
pub number-positive : (r : Refusal) → 0 < refusal_number r
number-positive Structure = omega arith
number-positive Spelling = omega arith
number-positive OutOfRange = omega arith
number-positive SidesExchanged = omega arith
number-positive NumberRepeated = omega arith
number-positive TrailingBytes = omega arith
number-positive NotLowRise = omega arith
number-positive TooLarge = omega arith
number-positive SheetTooLong = omega arith
number-positive FileTooLong = omega arith
number-positive CaseMisnumbered = omega arith
number-positive OutsideMap = omega arith

-- the first of several refusals, where the first is one and where it is none
pub refused-first : (r : Refusal) (a : ℕ) (later : List ℕ) → refusal_number r ≡ a → refusal_number r ≡ in_order (a ∷ later)
refused-first r a later e =
    let h = number-positive r in
    let n : eqb a 0 ≡ false = ne_eqb a 0 (omega arith) in
    rw n e

-- the refusal with a number
abbrev refusal_of : ℕ → Refusal
refusal_of n =
    pick (eqb n 1) Structure
    (pick (eqb n 2) Spelling
    (pick (eqb n 3) OutOfRange
    (pick (eqb n 4) SidesExchanged
    (pick (eqb n 5) NumberRepeated
    (pick (eqb n 6) TrailingBytes
    (pick (eqb n 7) NotLowRise
    (pick (eqb n 8) TooLarge
    (pick (eqb n 9) SheetTooLong
    (pick (eqb n 11) FileTooLong (pick (eqb n 12) CaseMisnumbered OutsideMap))))))))))

number-told : (r : Refusal) → refusal_of (refusal_number r) ≡ r
number-told Structure = refl
number-told Spelling = refl
number-told OutOfRange = refl
number-told SidesExchanged = refl
number-told NumberRepeated = refl
number-told TrailingBytes = refl
number-told NotLowRise = refl
number-told TooLarge = refl
number-told SheetTooLong = refl
number-told FileTooLong = refl
number-told CaseMisnumbered = refl
number-told OutsideMap = refl

-- no two refusals have the same number
pub number-is : (r s : Refusal) → refusal_number r ≡ refusal_number s → r ≡ s
number-is r s e = sym (number-told r) ∙ ap refusal_of e ∙ number-told s

abbrev outcome_of : {A : Type 0} → Result A ℕ → Result A Refusal
outcome_of (Ok a) = Ok a
outcome_of (Err n) = Err (refusal_of n)

outcome-told : {A : Type 0} (a : Result A Refusal) → outcome_of (numbered a) ≡ a
outcome-told (Ok a) = refl
outcome-told (Err r) = ap Err (number-told r)

-- and no two outcomes are the same in numbers
pub numbered-is : {A : Type 0} (a b : Result A Refusal) → numbered a ≡ numbered b → a ≡ b
numbered-is a b e = sym (outcome-told a) ∙ ap outcome_of e ∙ outcome-told b
