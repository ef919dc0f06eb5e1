-- Products of numbers.
use Prim.Native.Nat.{ℕ, ◌*◌, ◌≤◌}
use native.Mathlib.Nat.{mul-le-mul}

pub product : (m n : ℕ) {a b : ℕ} → a ≤ m → b ≤ n → a * b ≤ m * n
product m n h k = mul-le-mul h k
