-- A test that holds goes on to hold where its parts do.
use Prim.Native.Nat.{ℕ, zero, suc, ◌≤◌, ◌<◌}
use native.Mathlib.Omega.{arith}
use mathlib.Core.Bool.{Bool, true, ◌&&◌, ◌||◌}
use mathlib.Core.Path.{◌≡◌, subst}
use lib.Dec.{leb, ltb}
use Rattle.std.proofs.lemmas.Bool.Decides.{nat_tests}
use Rattle.records.specs.Notation.{any_below}

pub and-carried : (a b c d : Bool) → (a ≡ true → c ≡ true) → (b ≡ true → d ≡ true) → (a && b) ≡ true → (c && d) ≡ true
and-carried a b c d f g e = grind (arith, nat_tests)

pub or-carried : (a b c d : Bool) → (a ≡ true → c ≡ true) → (b ≡ true → d ≡ true) → (a || b) ≡ true → (c || d) ≡ true
or-carried a b c d f g e = grind (arith, nat_tests)

-- one that holds of some number below n, and so does another wherever it does
pub any-carried : (p q : ℕ → Bool) (n : ℕ) → ((c : ℕ) → c < n → p c ≡ true → q c ≡ true) → any_below p n ≡ true → any_below q n ≡ true
unfolding any_below
any-carried p q zero h e = e
any-carried p q (suc n) h e = grind (arith, any-carried p q n, h n)

pub leb-carried : (a b c d : ℕ) → (a ≤ b → c ≤ d) → leb a b ≡ true → leb c d ≡ true
leb-carried a b c d f e = grind (arith, nat_tests)

pub ltb-carried : (a b c d : ℕ) → (a < b → c < d) → ltb a b ≡ true → ltb c d ≡ true
ltb-carried a b c d f e = grind (arith, nat_tests)

-- a value that exceeds a limit
pub excess-carried : (limit x limit' x' : ℕ) → limit' ≤ limit → x ≤ x' → ltb limit x ≡ true → ltb limit' x' ≡ true
excess-carried limit x limit' x' h k e = grind (arith, nat_tests)

-- what holds of two numbers holds of those equal to them
pub at-equals : (P : ℕ → ℕ → Type 0) {a b c d : ℕ} → a ≡ b → c ≡ d → P a c → P b d
at-equals P {a} {b} {c} {d} e f h = subst (λ z. P z d) e (subst (λ z. P a z) f h)
