-- What an iterator gives with numbers from 0, and what it gives without them: the number of each is how many were given before it.
use Prim.Native.Nat.{ℕ, ◌+◌}
use native.Mathlib.Omega.{arith}
use mathlib.Core.List.{List, [], ◌∷◌, map}
use mathlib.Core.Path.{◌≡◌, ap, sym, ◌∙◌}
use lib.ListN.{length}
use Rattle.std.specs.Prelude.{Option, None, Some}
use Rattle.std.specs.Iterator.{Yields}
use Rattle.std.specs.Iterator.Adapters.{enumerate_source, enumerate_count, enumerate_steps}
use Rattle.std.specs.declared.iter.Enumerate.{Enumerate}
use Rattle.std.proofs.lemmas.List.{length-map}

module _ {S A : Type 0} (steps : S → Option A → S → Type 0) where
  unnumbered : (given : List (ℕ × A)) (s t : Enumerate S) → Yields (enumerate_steps steps) s given t
      → Yields steps (enumerate_source s) (map (λ (x : ℕ × A). x.1) given) (enumerate_source t) × (enumerate_count t ≡ enumerate_count s + length given)
  unnumbered [] s t y = (ap enumerate_source y, omega (arith, ap enumerate_count y))
  unnumbered (x ∷ given) s t y =
      let r = unnumbered given y.0 t y.2 in
      ((enumerate_source y.0, y.1.0, r.0), omega (arith, r.1, y.1.2))

  module _ (given : List (ℕ × A)) (s t u : Enumerate S) (y : Yields (enumerate_steps steps) s given t) (e : enumerate_count s ≡ 0) where
    so-far : length (map (λ (x : ℕ × A). x.1) given) ≡ enumerate_count t
    so-far = omega (arith, length-map given (λ (x : ℕ × A). x.1), (unnumbered given s t y).1, e)

    -- what holds of the next and of how many were given before it, holds of it and its number
    pub numbered-next : (P : ℕ → A → Type 0) → ((given : List A) (t u : S) (x : A) → Yields steps (enumerate_source s) given t → steps t (Some x) u → P (length given) x)
        → (x : ℕ × A) → enumerate_steps steps t (Some x) u → P x.0 x.1
    numbered-next P next x g =
        rw (g.1, ← so-far) (next (map (λ (x : ℕ × A). x.1) given) (enumerate_source t) (enumerate_source u) x.1 (unnumbered given s t y).0 g.0)

    -- where so many are given in all, the count is that at the end
    pub numbered-end : (n : ℕ) → ((given : List A) (t u : S) → Yields steps (enumerate_source s) given t → steps t None u → length given ≡ n)
        → enumerate_steps steps t None u → enumerate_count t ≡ n
    numbered-end n end g = sym so-far ∙ end (map (λ (x : ℕ × A). x.1) given) (enumerate_source t) (enumerate_source u) (unnumbered given s t y).0 g.0
