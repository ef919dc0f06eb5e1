-- An array made by calls of a closure that always does the same.
use Prim.Native.Nat.{ℕ, zero, suc, ◌+◌, ◌≤◌, ◌<◌}
use native.Mathlib.Omega.{arith}
use native.Mathlib.Nat.{eq-or-lt_of_le}
use mathlib.Core.List.{List, [], ◌∷◌, map}
use mathlib.Core.Logic.{⊎_elim}
use mathlib.Core.Path.{◌≡◌, refl, ◌∙◌}
use lib.ListN.{get_or}
use denote.Param.Members.{Mut}
use Rattle.std.specs.Fn.{Called}
use Rattle.std.specs.Array.{IsFromFnResult, IsFromFnResultFrom}
use Rattle.std.specs.List.{range_with_len}
use Rattle.std.proofs.lemmas.List.FromFn.{fill_by_all}

made : {F A : Type 0} (g : Mut F (ℕ × Unit {0}) A) (f : F) (h : ℕ → A) (ys : List A) (d : A) → ((x : ℕ) (y : A) (q : F) → Called g f (x, tt) y q → (q ≡ f) × (y ≡ h x)) → (n i : ℕ) → IsFromFnResultFrom g f ys i n → (k : ℕ) → i ≤ k → k < i + n → get_or ys k d ≡ h k
made g f h ys d same zero i e k a b = let z : ⊥ = omega arith in absurd z
made g f h ys d same (suc n) i (q, y, at, called, later) k a b =
    let s = same i y q called in
    ⊎_elim (λ (e : i ≡ k). rw (← e) (at.1 d ∙ s.1)) (λ (l : i < k). made g f h ys d same n (i + 1) (rw s.0 at later) k (omega arith) (omega arith)) (eq-or-lt_of_le a)

-- its elements in order
pub made_list : {F A : Type 0} (g : Mut F (ℕ × Unit {0}) A) (f : F) (h : ℕ → A) (ys : List A) (n : ℕ) → IsFromFnResult g f ys n → ((x : ℕ) (y : A) (q : F) → Called g f (x, tt) y q → (q ≡ f) × (y ≡ h x)) → ys ≡ map h (range_with_len 0 n)
made_list g f h [] n r same = rw (← r.long) refl
made_list g f h (y ∷ ys) n r same = fill_by_all h (y ∷ ys) n y r.long (λ k l. made g f h (y ∷ ys) y same n 0 r.each k (omega arith) (omega arith))
