-- The words of all definitions. Passed on: numbers, tests and lists of the library. Here: choice by a test, statements over the numbers below a bound, the first
-- of several refusals, totals, and lists by their elements. A refusal is document 01's number; 0 is none.
pub use Rattle.std.specs.Prelude.{ℕ, zero, suc, ◌+◌, ◌-◌, ◌*◌, ◌/◌, ◌%◌, ◌≤◌, ◌<◌, min, max, Bool, true, false, not, ◌&&◌, ◌||◌, List, [], ◌∷◌, ◌++◌, ◌≡◌, leb, ltb, eqb, length, get_or, take, drop}
pub use Rattle.std.proofs.Math.Option.{Option, some, none, get_or as Option·getD}

-- a where the test holds, b where it does not
abbrev pub pick : {A : Type 0} → Bool → A → A → A
pick true a b = a
pick false a b = b

-- the test holds of every number below n
unfoldable pub every_below : (ℕ → Bool) → ℕ → Bool
every_below p zero = true
every_below p (suc n) = every_below p n && p n

-- the test holds of some number below n
unfoldable pub any_below : (ℕ → Bool) → ℕ → Bool
any_below p zero = false
any_below p (suc n) = any_below p n || p n

-- the first refusal of a list
abbrev pub in_order : List ℕ → ℕ
in_order [] = 0
in_order (a ∷ later) = pick (eqb a 0) (in_order later) a

-- the first of f 0, f 1, .. f (n - 1) whose `number` is not 0, as a refusal's is not; else `clear`
unfoldable pub first : {A : Type 0} → A → (A → ℕ) → (ℕ → A) → ℕ → A
first clear number f zero = clear
first clear number f (suc n) = pick (eqb (number (first clear number f n)) 0) (f n) (first clear number f n)

-- the total of f over a list
unfoldable pub total : {A : Type 0} → (A → ℕ) → List A → ℕ
total f [] = 0
total f (x ∷ xs) = f x + total f xs

-- the test holds of some element of a list
unfoldable pub any_of : {A : Type 0} → (A → Bool) → List A → Bool
any_of p [] = false
any_of p (x ∷ xs) = p x || any_of p xs

-- f 0, f 1, .. f (n - 1)
unfoldable pub listed : {A : Type 0} → (ℕ → A) → ℕ → List A
listed f zero = []
listed f (suc n) = listed f n ++ (f n ∷ [])
